-- Files that are written one after the other.
use Rattle.std.proofs.Common.{◌≡◌, ◌≢◌, List, [], ◌∷◌, ◌++◌, map, Option, Err, inl, inr, refl, subst}
use Rattle.el_io.specs.Shelf.{Contents, Holds, KeepsOthers, NamedCall, Records}
use Rattle.el_io.specs.declared.shelf.ShelfFault.{ShelfFault}
use Rattle.el_io.specs.declared.shelf.ShelfFault.TheVariants as shelf_faults
use Rattle.el_io.specs.declared.shelf.Call.TheVariants.{Write}
use Rattle.tool.specs.declared.stop.Fault.{Fault}
use Rattle.tool.specs.declared.stop.Fault.TheVariants.{Device, NoMemory}
use Rattle.tool.specs.Answer.{WrittenFile}
use Rattle.tool.specs.Causes.{FaultLists, ListsOne}
use Rattle.tool.specs.Comes.{TriedToWrite, WroteFirst, Wrote}
use Rattle.tool.specs.Faults.{Unwritten, WriteFailed}
use Rattle.tool.specs.Stopping.{fault_of_shelf}

-- files and then others
pub wrote_both : (files others : List WrittenFile) (before between now : Option Contents) →
    Wrote before between files → Wrote between now others → Wrote before now (files ++ others)
wrote_both [] others before between now same later = subst (λ from. Wrote from now others) same later
wrote_both (file ∷ files) others before between now first later =
    (first.0, first.1, wrote_both files others first.0 between now first.2 later)

first_both : (files others : List WrittenFile) (before between now : Option Contents) →
    Wrote before between files → WroteFirst between now others → WroteFirst before now (files ++ others)
first_both [] others before between now same later = subst (λ from. WroteFirst from now others) same later
first_both (file ∷ files) others before between now first later =
    inr (first.0, first.1, first_both files others first.0 between now first.2 later)

failed_both : (files others : List WrittenFile) (had has : List NamedCall) (before between now : Option Contents) →
    Wrote before between files → WriteFailed others had has between now →
    WriteFailed (files ++ others) had has before now
failed_both [] others had has before between now same later =
    subst (λ from. WriteFailed others had has from now) same later
failed_both (file ∷ files) others had has before between now first later =
    inr (first.0, first.1, failed_both files others had has first.0 between now first.2 later)

pub unwritten_behind : (files others : List WrittenFile) (had has : List NamedCall)
    (before between now : Option Contents)
    (fault : Fault) → Wrote before between files → Unwritten others had has between now fault →
    Unwritten (files ++ others) had has before now fault
unwritten_behind files others had has before between now Device first later =
    failed_both files others had has before between now first later
unwritten_behind files others had has before between now NoMemory first later =
    (later.0, first_both files others before between now first later.1)

-- files that were not all written, and none of the others behind them
first_of_more : (files others : List WrittenFile) (before now : Option Contents) → WroteFirst before now files →
    WroteFirst before now (files ++ others)
first_of_more [] [] before now same = same
first_of_more [] (other ∷ others) before now same = inl same
first_of_more (file ∷ files) others before now (inl same) = inl same
first_of_more (file ∷ files) others before now (inr rest) =
    inr (rest.0, rest.1, first_of_more files others rest.0 now rest.2)

failed_of_more : (files others : List WrittenFile) (had has : List NamedCall) (before now : Option Contents) →
    WriteFailed files had has before now → WriteFailed (files ++ others) had has before now
failed_of_more [] others had has before now none = absurd none
failed_of_more (file ∷ files) others had has before now (inl failed) = inl failed
failed_of_more (file ∷ files) others had has before now (inr rest) =
    inr (rest.0, rest.1, failed_of_more files others had has rest.0 now rest.2)

pub unwritten_before : (files others : List WrittenFile) (had has : List NamedCall) (before now : Option Contents)
    (fault : Fault) → Unwritten files had has before now fault → Unwritten (files ++ others) had has before now fault
unwritten_before files others had has before now Device failed = failed_of_more files others had has before now failed
unwritten_before files others had has before now NoMemory kept = (kept.0, first_of_more files others before now kept.1)

-- a write that failed was tried
pub tried : (files : List WrittenFile) (had has : List NamedCall) (before now : Option Contents) →
    WriteFailed files had has before now → TriedToWrite before now files
tried [] had has before now none = absurd none
tried (file ∷ files) had has before now (inl failed) = inl failed.1
tried (file ∷ files) had has before now (inr rest) = inr (rest.0, rest.1, tried files had has rest.0 now rest.2)

-- the write of a file
abbrev pub write_of : WrittenFile → NamedCall
write_of file = (Write, file.name)

-- the shelf's list got one of the writes
listed : (files : List WrittenFile) (had has : List NamedCall) (before now : Option Contents) →
    WriteFailed files had has before now → ListsOne (map write_of files) had has
listed [] had has before now none = absurd none
listed (file ∷ files) had has before now (inl failed) = inl failed.0
listed (file ∷ files) had has before now (inr rest) = inr (listed files had has rest.0 now rest.2)

pub unwritten_lists : (files : List WrittenFile) (had has : List NamedCall) (before now : Option Contents)
    (fault : Fault) → Unwritten files had has before now fault → FaultLists (map write_of files) had has fault
unwritten_lists files had has before now Device failed = listed files had has before now failed
unwritten_lists files had has before now NoMemory kept = kept.0

-- one file
pub one_written : (file : WrittenFile) (before now : Option Contents) → KeepsOthers before now file.name →
    Holds now file.name file.bytes → Wrote before now (file ∷ [])
one_written file before now keeps holds = (now, (keeps, holds), refl)

pub one_unwritten : (file : WrittenFile) (fault : ShelfFault) (had has : List NamedCall)
    (before now : Option Contents) → KeepsOthers before now file.name → (fault ≡ shelf_faults.NoMemory → now ≡ before) →
    (fault ≢ shelf_faults.TooBig) → Records {T = Unit {0}} (Err fault) had has (Write, file.name) →
    Unwritten (file ∷ []) had has before now (fault_of_shelf fault)
one_unwritten file shelf_faults.Failed had has before now keeps same never listed = inl (listed, keeps)
one_unwritten file shelf_faults.TooBig had has before now keeps same never listed = absurd (never refl)
one_unwritten file shelf_faults.NoMemory had has before now keeps same never listed = (listed, inl (same refl))
