-- An output with a stretch copied into it, and what is still to be read. Assumes nothing.
use Rattle.std.proofs.Common.{◌≡◌, ℕ, ◌+◌, ◌-◌, ◌<◌, ◌≤◌, min, List, ◌++◌, length, take, drop, ap, append_assoc, arith, length-take}
use Rattle.std.proofs.lemmas.Slice.{take-put_mid}
use borrow.Rule.Slice.PartMut.{put_mid}
use Rattle.rolled_read.specs.Rolled.{rolled_from}
use Rattle.rolled_read.proofs.RolledLaws.{rolled_ahead}

-- n bytes of what lies ahead put at a place: the whole memory lies ahead of the rest
pub read_on : (m ahead out copied : List ℕ) (at n size : ℕ) → 0 < length ahead → length ahead ≤ length m → ahead ≡ drop (length m - length ahead) m
    → at ≤ length out → n ≡ min (length ahead) (size - at) → copied ≡ take n ahead
    → take (at + n) (put_mid at (at + n - at) out copied) ++ rolled_from m (length m - length m) (size - (at + n))
    ≡ take at out ++ rolled_from m (length m - length ahead) (size - at)
read_on m ahead out copied at n size some part is within e q =
    let long : at + n ≡ at + length copied = omega (arith, ap length q, length-take n ahead) in
    let top : length m - length m ≡ 0 = omega arith in
    let left : size - at - n ≡ size - (at + n) = omega arith in
    rw (take-put_mid, append_assoc, q, top, rolled_ahead m ahead n (size - at) some part is e, left)
