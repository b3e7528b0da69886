-- No sample passes the ceiling. Assumes nothing.
use Rattle.std.proofs.Common.{ℕ, zero, suc, ◌*◌, ◌/◌, ◌≤◌, min, Bool, true, false, arith, le→leb}
use lib.Signed.{le_z_yes}
use lib.Ieee.{Float, nan, inf, fin, binary32, up, down, mul}
use Rattle.base_float32.specs.Limit.{signed, held, scale, sample_of, Within, EverySampleWithin}

signed-within : (s : Bool) (n ceiling : ℕ) → n ≤ ceiling → Within ceiling (signed s n)
signed-within false n zero h = (le_z_yes (le→leb 0 n (omega arith)), le_z_yes (le→leb n 0 h))
signed-within false n (suc k) h = (le_z_yes tt, le_z_yes (le→leb n (suc k) h))
signed-within true zero zero h = (le_z_yes tt, le_z_yes tt)
signed-within true zero (suc k) h = (le_z_yes tt, le_z_yes (le→leb 0 (suc k) (omega arith)))
signed-within true (suc n) zero h = absurd (omega arith)
signed-within true (suc n) (suc k) h = (le_z_yes (le→leb n k (omega arith)), le_z_yes tt)

held-within : (k ceiling : ℕ) → k ≤ ceiling → (y : Float) → Within ceiling (held k y)
unfolding held
held-within k ceiling h nan = signed-within false 0 ceiling (omega arith)
held-within k ceiling h (inf s) = signed-within s k ceiling h
held-within k ceiling h (fin s m e) = signed-within s (min (m * up e / down e) k) ceiling (omega arith)

-- for every ceiling at all
pub sample-within : (x : Float) (ceiling : ℕ) → Within ceiling (sample_of x ceiling)
unfolding sample_of
sample-within x ceiling = held-within (min ceiling 32767) ceiling (omega arith) (mul binary32 x scale)

pub every-sample-within : EverySampleWithin
every-sample-within x ceiling h k = sample-within x ceiling
