-- What a line of input adds to the readings. Assumes nothing.
use Rattle.std.specs.Prelude.{◌≡◌, ℕ, List, ◌++◌, map}
use Rattle.probe.specs.Classes.{symbol_of}
use Rattle.reading.specs.declared.Symbol.{Symbol}
use Rattle.reader.specs.Lines.{Parsed}

-- the readings grow by the symbol of each probe byte of the text, in their order, and by nothing else
pub record Classed (text : List ℕ) (before after : List Symbol) : Type 0 where
  pub bytes : List ℕ
  pub others : List (List ℕ)
  pub parsed : Parsed text bytes others
  pub added : after ≡ before ++ map symbol_of bytes
