-- The number of each refusal, and the layer that it belongs to. Assumes nothing.
use Rattle.std.specs.Prelude.{ℕ, cond, nat_le}
use Rattle.refusal.specs.declared.Layer.{Layer}
use Rattle.refusal.specs.declared.Layer.TheVariants.{Words, Grammar, Limits, Load}
use Rattle.refusal.specs.declared.Refusal.{Refusal}
use Rattle.refusal.specs.declared.Refusal.TheVariants.{TextLength, UnknownToken, Syntax, RepeatedLetter, NumberRange, TooManyAtoms, TooManyStates, QuestionTooLarge, TagCount, LengthMismatch, UnknownSymbol, NoSuchPlace, SamePlace, UnknownState}

-- the number by which users know a refusal
abbrev pub number_of : Refusal → ℕ
number_of TextLength = 1
number_of UnknownToken = 2
number_of Syntax = 3
number_of RepeatedLetter = 4
number_of NumberRange = 5
number_of TooManyAtoms = 6
number_of TooManyStates = 7
number_of QuestionTooLarge = 8
number_of TagCount = 9
number_of LengthMismatch = 10
number_of UnknownSymbol = 11
number_of NoSuchPlace = 12
number_of SamePlace = 13
number_of UnknownState = 14

-- the layer that a number belongs to: words 1 and 2, grammar 3, limits 4 to 7, load 8 to 14
abbrev pub layer_at : ℕ → Layer
layer_at n = cond (nat_le n 2) Words (cond (nat_le n 3) Grammar (cond (nat_le n 7) Limits Load))

-- the layer of a refusal
abbrev pub layer_of : Refusal → Layer
layer_of r = layer_at (number_of r)
