-- The halves of a number of halves are they. Assumes nothing.
use Rattle.std.proofs.Common.{◌≡◌, sym, ◌∙◌, rules}
use Rattle.question.specs.Halves.{number_reply}
use Rattle.question.proofs.Halves.{number_given}
use Rattle.question.proofs.states.Sizes.number.Goals as goal

pub returns : goal.returns
returns c =
    let s = c.args.self in
    let value : c.then.result ≡ number_reply s.left s.right c.args.left c.args.right = search rules in
    record {
      value = value;
      undone = λ state e. number_given s.left s.right c.args.left c.args.right state (sym value ∙ e);
    }
