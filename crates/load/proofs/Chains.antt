-- Lists of calls, one after the other: how a client chains the calls that it made. Assumes nothing.
use Rattle.std.proofs.Common.{ℕ, Bool, List, [], ◌∷◌, ◌++◌}
use Rattle.protocol.specs.Protocols.{Protocol}
use Rattle.load.specs.Calls.{Call, Calls, none, call, other_words, Request, Reply}
use Rattle.load.specs.Phases.{Phase}

module _ {p : Protocol Bool} where
  -- a further list
  pub then_calls : {before between after : Phase} {words left end : List ℕ} {calls more : List (Request × Reply)}
      → Calls p before words calls between left → Calls p between left more after end → Calls p before words (calls ++ more) after end
  then_calls none more = more
  then_calls (call one rest) more = call one (then_calls rest more)
  then_calls (other_words e one rest) more = other_words e one (then_calls rest more)

  -- one call more
  pub then_call : {before between after : Phase} {words left end : List ℕ} {calls : List (Request × Reply)} {request : Request} {reply : Reply}
      → Calls p before words calls between left → Call p request between left reply after end → Calls p before words (calls ++ ((request, reply) ∷ [])) after end
  then_call calls one = then_calls calls (call one none)
