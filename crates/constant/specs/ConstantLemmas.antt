-- The laws hold at once: every load is settled from the start, and every state answers the truth. Assumes nothing.
use Rattle.std.specs.Prelude.{◌-◌, ◌*◌, ◌^◌, Bool, refl}
use Rattle.std.proofs.lemmas.Bool.{leb-true}
use Rattle.protocol.specs.Laws.{Lawful, done}
use Rattle.constant.specs.Constant.{constant}

pub constant_lawful : (b : Bool) → Lawful (constant b).protocol
constant_lawful b = record {
  size_fits = leb-true 1 (2 ^ 32) refl;
  weight_fits = leb-true 0 (65536 * (1 - 1)) refl;
  start_known = λ symbol h some. some;
  meet_known = λ first second x y. (x, y);
  stable = λ symbols states some readings reached. record {
    settles = done refl;
    right = λ e place h. refl;
    stays = λ e first second apart. refl;
  };
}
