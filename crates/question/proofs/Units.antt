-- What an allowed unit fulfils. Assumes nothing.
use Rattle.std.proofs.Common.{◌≡◌, ℕ, ◌*◌, ◌^◌, ◌<◌, ◌≤◌, true, ◌&&◌, ltb, leb}
use Rattle.std.proofs.lemmas.Bool.{and_parts, ltb-true, leb-true}
use Rattle.protocol.specs.Protocols.{allowed_unit}

pub allowed_facts : (unit size : ℕ) → allowed_unit unit size ≡ true → (0 < unit) × (0 < size) × (unit * size ≤ 2 ^ 32)
allowed_facts unit size e =
    let outer = and_parts (ltb 0 unit) (ltb 0 size && leb (unit * size) (2 ^ 32)) e in
    let inner = and_parts (ltb 0 size) (leb (unit * size) (2 ^ 32)) outer.1 in
    (ltb-true 0 unit outer.0, ltb-true 0 size inner.0, leb-true (unit * size) (2 ^ 32) inner.1)
