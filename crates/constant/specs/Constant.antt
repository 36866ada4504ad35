-- The question that always answers the same. Assumes nothing.
use Rattle.std.specs.Prelude.{Bool}
use Rattle.protocol.specs.declared.Advice.TheVariants.{Settled}
use Rattle.protocol.specs.Protocols.{Meaning}

-- constant (K): one state, in which a tag starts and stays; the answer and the truth are the same one
abbrev pub constant : Bool → Meaning
constant b = record {
  kind = 75;
  protocol = record {
    tables = record { size = 1; start = λ _. 0; answer = λ _. b; meet = λ first second. (first, second) };
    weight = 0;
    next = λ _. Settled;
    truth = λ _. b;
  };
}
