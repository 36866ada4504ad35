-- One word more of a line. Assumes nothing.
use Rattle.std.proofs.Common.{◌≡◌, ℕ, ◌^◌, ◌<◌, List, [], ◌∷◌, ◌++◌, length, append_assoc, append-nil, arith}
use Rattle.std.specs.Str.Parse.{IsNumeral, digits_value, without_leading_plus}
use Rattle.std.specs.Char.{is_whitespace, is_not_whitespace}
use Rattle.std.specs.Str.{NoCharPasses, EmptyOrStartsWithPassing}
use Rattle.reader.specs.Lines.{First, Words, Writes, Partition, none, byte, other, Parsed}

-- the loop's invariant: however the words of the rest are parted, those of the text are parted so, after what is parted already
pub record Sofar (text rest bytes : List ℕ) (others : List (List ℕ)) : Type 0 where
  pub onward : (ws : List (List ℕ)) (bs : List ℕ) (os : List (List ℕ)) → Words rest ws → Partition ws bs os → Parsed text (bytes ++ bs) (others ++ os)

pub none_parsed : (text : List ℕ) → Sofar text text [] []
none_parsed text = record { onward = λ ws bs os cut parted. record { words = ws; cut = cut; parted = parted } }

module _ {text rest bytes : List ℕ} {others : List (List ℕ)} (old : Sofar text rest bytes others) {word next : List ℕ} (first : First rest word next) where
  pub one_byte : {b : ℕ} {more : List ℕ} → Writes word b → more ≡ bytes ++ b ∷ [] → Sofar text next more others
  one_byte {b} w pushed = record { onward = λ ws bs os cut parted. rw (pushed, append_assoc) (old.onward (word ∷ ws) (b ∷ bs) os (next, first, cut) (byte w parted)) }

  pub one_other : {more : List (List ℕ)} → ((b : ℕ) → Writes word b → ⊥) → more ≡ others ++ word ∷ [] → Sofar text next bytes more
  one_other no' pushed = record { onward = λ ws bs os cut parted. rw (pushed, append_assoc) (old.onward (word ∷ ws) bs (word ∷ os) (next, first, cut) (other no' parted)) }

pub all_parsed : {text rest bytes : List ℕ} {others : List (List ℕ)} → Sofar text rest bytes others → Words rest [] → Parsed text bytes others
all_parsed old end = simp append-nil at (old.onward [] [] [] end none)

-- what `split_whitespace` says of an item
pub first_of : (text word rest : List ℕ) → (gap : List ℕ) × (text ≡ gap ++ (word ++ rest)) × (0 < length word) × NoCharPasses is_not_whitespace gap × NoCharPasses is_whitespace word × ((more : List ℕ) × EmptyOrStartsWithPassing is_whitespace rest more) → First text word rest
first_of text word rest cut = record { gap = cut.0; cut = cut.1; some = cut.2; blank = cut.3; solid = cut.4; ends = cut.5 }

-- what `parse` says of a word, where it gives a byte and where it gives none
module _ (word : List ℕ) where
  pub parsed : (b : ℕ) → (IsNumeral 10 (without_leading_plus word) × (digits_value 10 (without_leading_plus word) < 2 ^ 8)) × (b ≡ digits_value 10 (without_leading_plus word)) → Writes word b
  parsed b h = record { numeral = h.0.0; small = omega (arith, h.0.1, h.1); number = h.1 }

  pub not_parsed : (IsNumeral 10 (without_leading_plus word) × (digits_value 10 (without_leading_plus word) < 2 ^ 8) → ⊥) → (b : ℕ) → Writes word b → ⊥
  not_parsed h b w = h (w.numeral, omega (arith, w.small, w.number))
