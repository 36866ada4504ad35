-- The checks of a call: the questions that it asks of its input, and what their answers decide. Assumes nothing.
use Rattle.std.specs.Prelude.{◌≡◌, ℕ, Bool, true, false, List, [], ◌∷◌, ◌++◌, Ok, Err, Result}
use Rattle.std.specs.List.{AllByRecursion}
use Rattle.refusal.specs.declared.Fault.{Fault}
use Rattle.refusal.specs.declared.Refusal.{Refusal}

-- the fault of a refusal at a place
abbrev pub fault_at : Refusal → ℕ → Fault
fault_at r p = record { refusal = r; place = p }

-- a question, answered: yes, or no with the fault
abbrev pub Check : Type 0
Check = Result (Unit {0}) Fault

-- answered yes
abbrev pub Yes : Check → Type 0
Yes c = c ≡ Ok tt

-- answered yes where the fact holds, else no: this refusal at this place
abbrev pub check : Refusal → Bool → ℕ → Check
check r true p = Ok tt
check r false p = Err (fault_at r p)

-- the verdict over a call's checks, in the order in which it makes them; a question put to many places stands in the list once for each, in their order
abbrev pub verdict : List Check → Check
verdict [] = Ok tt
verdict (Ok u ∷ rest) = verdict rest
verdict (Err f ∷ rest) = Err f

-- the outcome of a list of checks is its first no, or yes where there is none
pub data FirstNo : List Check → Check → Type 0 where
  all_yes : {cs : List Check} → AllByRecursion Yes cs → FirstNo cs (Ok tt)
  refused : (before rest : List Check) (f : Fault) → AllByRecursion Yes before → FirstNo (before ++ (Err f ∷ rest)) (Err f)

-- of every list of checks the verdict is the first no
abbrev pub FirstNoDecides : Type 0
FirstNoDecides = (cs : List Check) → FirstNo cs (verdict cs)

-- what a place holds after a call with this verdict: the new where it is granted, else the old
abbrev pub leaves : {X : Type 0} → Check → X → X → X
leaves (Ok u) new old = new
leaves (Err f) new old = old
