-- A shelf in memory that never fails, as callers see it.
use Rattle.el_io.specs.declared.sure_shelf.SureShelf.{SureShelf}
use Rattle.el_io.specs.Shelf.{Contents}
use Rattle.el_io.specs.Files.{contents_of}

-- the bytes of each name
abbrev pub contents : SureShelf → Contents
contents shelf = contents_of shelf.files
