-- Numbers as bytes, as std lays them.
use Rattle.std.proofs.Common.{◌≡◌, ℕ, ◌/◌, ◌%◌, [], ◌∷◌, refl, arith, w16, w32, w64}
use Rattle.std.specs.Int.{to_be_bytes, to_le_bytes}
use Rattle.program_io.specs.Bytes.{big_endian, little_endian}

pub big-half : (v : ℕ) → to_be_bytes w16 v ≡ big_endian 2 v
unfolding big_endian
big-half v = refl

pub little-half : (v : ℕ) → to_le_bytes w16 v ≡ little_endian 2 v
unfolding little_endian
little-half v = refl

pub big-word : (v : ℕ) → to_be_bytes w32 v ≡ big_endian 4 v
unfolding big_endian
big-word v =
    let a : v / 16777216 % 256 ≡ v / 256 / 256 / 256 % 256 = omega arith in
    let b : v / 65536 % 256 ≡ v / 256 / 256 % 256 = omega arith in
    λ i. a i ∷ b i ∷ v / 256 % 256 ∷ v % 256 ∷ []

pub little-word : (v : ℕ) → to_le_bytes w32 v ≡ little_endian 4 v
unfolding little_endian
little-word v =
    let c : v / 65536 % 256 ≡ v / 256 / 256 % 256 = omega arith in
    let d : v / 16777216 % 256 ≡ v / 256 / 256 / 256 % 256 = omega arith in
    λ i. v % 256 ∷ v / 256 % 256 ∷ c i ∷ d i ∷ []

pub big-long : (v : ℕ) → to_be_bytes w64 v ≡ big_endian 8 v
unfolding big_endian
big-long v =
    let a : v / 72057594037927936 % 256 ≡ v / 256 / 256 / 256 / 256 / 256 / 256 / 256 % 256 = omega arith in
    let b : v / 281474976710656 % 256 ≡ v / 256 / 256 / 256 / 256 / 256 / 256 % 256 = omega arith in
    let c : v / 1099511627776 % 256 ≡ v / 256 / 256 / 256 / 256 / 256 % 256 = omega arith in
    let d : v / 4294967296 % 256 ≡ v / 256 / 256 / 256 / 256 % 256 = omega arith in
    let e : v / 16777216 % 256 ≡ v / 256 / 256 / 256 % 256 = omega arith in
    let f : v / 65536 % 256 ≡ v / 256 / 256 % 256 = omega arith in
    λ i. a i ∷ b i ∷ c i ∷ d i ∷ e i ∷ f i ∷ v / 256 % 256 ∷ v % 256 ∷ []
