-- What is printed of a layer, a refusal and a fault, as bytes. Assumes nothing.
use Rattle.std.specs.Prelude.{ℕ, List, ◌++◌, codes, decimal}
use Rattle.refusal.specs.declared.Fault.{Fault}
use Rattle.refusal.specs.declared.Layer.{Layer}
use Rattle.refusal.specs.declared.Layer.TheVariants.{Words, Grammar, Limits, Load}
use Rattle.refusal.specs.declared.Refusal.{Refusal}
use Rattle.refusal.specs.declared.Refusal.TheVariants.{TextLength, UnknownToken, Syntax, RepeatedLetter, NumberRange, TooManyAtoms, TooManyStates, QuestionTooLarge, TagCount, LengthMismatch, UnknownSymbol, NoSuchPlace, SamePlace, UnknownState}
use Rattle.refusal.specs.Numbers.{number_of, layer_of}

-- the word for a layer
abbrev pub name_of : Layer → List ℕ
name_of Words = codes "words"
name_of Grammar = codes "grammar"
name_of Limits = codes "limits"
name_of Load = codes "load"

-- what is wrong, in words for whoever made the call
abbrev pub sentence_of : Refusal → List ℕ
sentence_of TextLength = codes "a question text has 1 to 200 bytes"
sentence_of UnknownToken = codes "this word or mark is not part of the question language"
sentence_of Syntax = codes "here the text stops being a question, or ends too early"
sentence_of RepeatedLetter = codes "this letter stands a second time in the same sum or list of letters"
sentence_of NumberRange = codes "a number is out of range: coefficient to 99, bound to 999, modulus 2 to 999, residue below it, table to 2^lanes bits"
sentence_of TooManyAtoms = codes "a question joins at most 6 atoms, and this is the seventh"
sentence_of TooManyStates = codes "with this atom the question has more than 4294967296 states"
sentence_of QuestionTooLarge = codes "the question has more than 4294967296 states, too many to run a load"
sentence_of TagCount = codes "a load has 1 to 1024 tags"
sentence_of LengthMismatch = codes "this call was given a list of the wrong length"
sentence_of UnknownSymbol = codes "the reading at this place is none of a to h"
sentence_of NoSuchPlace = codes "the load has no tag at this place"
sentence_of SamePlace = codes "a tag cannot meet itself"
sentence_of UnknownState = codes "the word of this tag is no state of the question"

-- number, place, layer and sentence, as `refused 10 at 0 load: ..`
abbrev pub fault_text : Fault → List ℕ
fault_text f =
    codes "refused "
    ++ (decimal (number_of f.refusal)
    ++ (codes " at "
    ++ (decimal f.place
    ++ (codes " " ++ (name_of (layer_of f.refusal) ++ (codes ": " ++ sentence_of f.refusal))))))
