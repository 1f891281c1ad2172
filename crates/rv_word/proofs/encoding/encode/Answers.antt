use Rattle.rv_word.proofs.encoding.encode.Goals as goal

pub returns-in-Lr-clause-no_other_word_does : goal.returns-in-Lr-clause-no_other_word_does
returns-in-Lr-clause-no_other_word_does c w fits means not_fence = c.atomic_word.ensures.only w fits means
