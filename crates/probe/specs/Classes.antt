-- The classes of probe bytes: the rule, and the test that a table keeps it. Assumes nothing.
use Rattle.std.specs.Prelude.{ℕ, Bool, List, map, if◌then◌else◌}
use Rattle.std.specs.Int.{is_in_range}
use Rattle.std.specs.List.{range_with_len}
use Rattle.std.specs.Str.{bytes_eq}
use Rattle.reading.specs.declared.Symbol.{Symbol}

-- the number of a byte's symbol: each line has the first and the last byte of a class; what is left is 255, the class h
abbrev pub class_of : ℕ → ℕ
class_of byte =
    if is_in_range 0 39 byte then 0
    else (if is_in_range 40 79 byte then 1
    else (if is_in_range 80 99 byte then 2
    else (if is_in_range 100 119 byte then 3
    else (if is_in_range 120 159 byte then 4
    else (if is_in_range 160 199 byte then 5
    else (if is_in_range 200 254 byte then 6
    else 7))))))

-- the symbol that a byte is classed as
abbrev pub symbol_of : ℕ → Symbol
symbol_of byte = record { 0 = class_of byte }

-- a table is the numbers of the symbols of the bytes from 0 to 255
abbrev pub keeps_rule : List ℕ → Bool
keeps_rule table = bytes_eq table (map class_of (range_with_len 0 256))
