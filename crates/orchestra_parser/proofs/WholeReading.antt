-- What the reading of a whole orchestra gives, from the reader's definition.
use Prim.Native.Nat.{ℕ, ◌+◌, ◌-◌}
use native.Mathlib.Omega.{arith}
use mathlib.Core.Path.{◌≡◌, refl, sym, ap, ap₂, ◌∙◌}
use mathlib.Core.List.{List}
use lib.ListN.{length, drop, length-drop}
use Rattle.orchestra_tokens.specs.declared.Token.{Token}
use Rattle.orchestra_syntax.specs.Tree.{Instrument}
use Rattle.orchestra_syntax.specs.inside.Program.{program}
use Rattle.std.specs.Prelude.{Some}
use Rattle.orchestra_expressions.specs.Reader.{no, ok}
use Rattle.orchestra_expressions.specs.Areas.{ParseState, Areas, stored, Holds, Ready, come, Runs, gone, refused, done}
use Rattle.orchestra_expressions.proofs.Moves.{same_at, same_out}
use Rattle.orchestra_expressions.proofs.Runs.{took_of}
use Rattle.orchestra_syntax.specs.Grammar.{Orchestra}
use Rattle.orchestra_grammar.specs.Reader.{orchestra}
use Rattle.orchestra_grammar.proofs.Complete.{complete}
use Rattle.orchestra_grammar.proofs.Sound.{sound}
use Rattle.orchestra_grammar.proofs.Unique.{unique}
use Rattle.orchestra_parser.specs.Reading.{Reads, read}
use Rattle.orchestra_parser.specs.Reading as Reading

-- from the first token
pub starts : (ts : List Token) {n : ℕ} {m : Areas} → length ts ≡ n → Holds n m → Ready ts 0 (Some (0, 0)) m
starts ts {n} e h = come 0 0 refl (omega arith) (let z : 0 + 0 + (length ts - 0) ≡ n = omega arith in rw z h)

-- the reader's definition accepts exactly what the grammar derives
pub reads : {ts : List Token} {m n : Areas} {g : ParseState} → Runs ts orchestra (Some (0, 0)) m g n → Reads ts m g n
reads (gone e x q) = let z : ◌≡◌ {A = ℕ} 0 1 = cc in absurd (omega arith)
reads {ts} (refused at out c e v x q) =
    let p : at ≡ 0 = same_at e refl in
    let w : orchestra ts ≡ no = ap (λ z. orchestra (drop z ts)) (sym p) ∙ v in
    let r : out ≡ 0 = same_out e refl in
    Reading.refused c (λ is d. let y = complete d in let z : ◌≡◌ {A = ℕ} 0 1 = cc in omega arith) x (rw r at q)
reads {ts} {m} (done at out to c e v le x s) =
    let p : at ≡ 0 = same_at e refl in
    let q : out ≡ 0 = same_out e refl in
    let w : orchestra ts ≡ ok c (drop to ts) = ap (λ z. orchestra (drop z ts)) (sym p) ∙ v in
    let o = took_of (sound ts) w in
    let l : length (drop to ts) ≡ 0 = ap length o.nothing_left in
    let t : to ≡ length ts = omega (arith, length-drop to ts) in
    let k : out + length c ≡ length (program o.tree) = omega (arith, q, ap length o.code) in
    read o.tree o.derives (x ∙ ap₂ (λ (a b : ℕ). Some (a, b)) t k) (s ∙ ap₂ (stored m) q o.code)

-- some orchestra's tokens are read, and no two trees have the same tokens
pub accepted : {ts : List Token} {m n : Areas} {g : ParseState} (is : List Instrument) → Orchestra is ts → Reads ts m g n
    → (g ≡ Some (length ts, length (program is))) × (n ≡ stored m 0 (program is))
accepted {ts} {m} is d (read js e x s) =
    let z : js ≡ is = unique e d refl in
    (x ∙ ap (λ w. Some (length ts, length (program w))) z, s ∙ ap (λ w. stored m 0 (program w)) z)
accepted is d (Reading.refused c f x q) = absurd (f is d)
