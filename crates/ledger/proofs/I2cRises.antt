-- The n rises of a span are its whole bytes, nine rises each, and n mod 9 rises of a byte begun. From the count of groups. Assumes
-- nothing.
use Prim.Native.Nat.{◌+◌, ◌*◌, ◌<◌}
use mathlib.Core.Path.{◌≡◌}
use mathlib.Core.List.{List, []}
use native.Mathlib.Omega.{arith}
use lib.ListN.{length, length-map}
use Rattle.ledger.specs.I2cLedger.{Clock, line_at, nine_rises, rises_in, bytes, unfinished}
use Rattle.ledger.proofs.GroupLaws.{counted_from}

-- nine times the whole bytes, and fewer than nine more
pub record Counted (ks : List Clock) : Type 0 where
  pub rises : length ks ≡ 9 * length (bytes ks) + length (unfinished ks)
  pub fewer : length (unfinished ks) < 9

pub counted : (ks : List Clock) → Counted ks
counted ks =
    let c = counted_from 8 ks [] 8 (omega arith) in
    let whole = length-map (rises_in ks).whole nine_rises in
    let left = length-map (rises_in ks).left line_at in
    record { rises = omega (arith, c.all); fewer = omega (arith, c.fewer) }
