-- `All P r` says P of what r read; and how readings in a row are followed.
use Rattle.std.proofs.Common.{◌≡◌, ℕ, Bool, true, false, cond, eqb, List, [], ◌∷◌, ◌++◌, drop, refl, eqb-true}
use Rattle.orchestra_tokens.specs.declared.Token.{Token}
use Rattle.orchestra_tokens.specs.declared.Token.TheVariants.{Number, Symbol, Whole, Sign}
use Rattle.orchestra_syntax.specs.inside.Program.{Ins}
use Rattle.orchestra_expressions.specs.Roles.{sign_l}
use Rattle.orchestra_expressions.specs.Reader.{Res, no, ok, prepend, seq, sign}

pub data All (P : List Ins → List Token → Type 0) : Res → Type 0 where
  none : All P no
  some : {c : List Ins} {r : List Token} → P c r → All P (ok c r)

module _ {P Q : List Ins → List Token → Type 0} where
  pub All-weaken : {x : Res} → All P x → ((c : List Ins) (r : List Token) → P c r → Q c r) → All Q x
  All-weaken none f = none
  All-weaken (some h) f = some (f _ _ h)

  pub All-prepend : (c : List Ins) {x : Res} → All P x → ((d : List Ins) (q : List Token) → P d q → Q (c ++ d) q) → All Q (prepend c x)
  All-prepend c none f = none
  All-prepend c (some h) f = some (f _ _ h)

-- of two readings in a row
pub All-seq : {P Q : List Ins → List Token → Type 0} {x : Res} (k : List Token → Res)
    → All P x → ((c : List Ins) (r : List Token) → P c r → All (λ d q. Q (c ++ d) q) (k r)) → All Q (seq x k)
All-seq k none f = none
All-seq k (some {c = c} h) f = All-prepend c (f _ _ h) (λ d q h. h)

-- what holds of both arms of a choice holds of it
pub by_arm : {A : Type 0} (P : A → Type 0) (b : Bool) (x y : A) → (b ≡ true → P x) → (b ≡ false → P y) → P (cond b x y)
by_arm P true x y f g = f refl
by_arm P false x y f g = g refl

pub All-cond : {Q : List Ins → List Token → Type 0} (b : Bool) (x y : Res) → (b ≡ true → All Q x) → (b ≡ false → All Q y) → All Q (cond b x y)
All-cond {Q} = by_arm (All Q)

-- by whether a sign is there: what is read after it, or something else
pub All-if : {Q : List Ins → List Token → Type 0} (s : ℕ) (ts : List Token) (x : List Token → Res) (y : Res)
    → ((r : List Token) → ts ≡ Sign s ∷ r → All Q (x r)) → All Q y → All Q (cond (sign_l ts s) (x (drop 1 ts)) y)
All-if s [] x y f g = g
All-if s (Number v ∷ ts) x y f g = g
All-if s (Symbol n ∷ ts) x y f g = g
All-if s (Whole w ∷ ts) x y f g = g
All-if s (Sign k ∷ ts) x y f g = All-cond (eqb k s) _ _ (λ e. f ts (rw (eqb-true k s e))) (λ e. g)

-- a sign was read, and nothing else
abbrev pub Signed : ℕ → List Token → List Ins → List Token → Type 0
Signed s ts c r = (c ≡ []) × (ts ≡ Sign s ∷ r)

pub signed : (s : ℕ) (ts : List Token) → All (Signed s ts) (sign s ts)
signed s ts = All-if s ts (ok []) no (λ r e. some (refl, e)) none

pub All-sign : {Q : List Ins → List Token → Type 0} (s : ℕ) (ts : List Token) (k : List Token → Res)
    → ((r : List Token) → ts ≡ Sign s ∷ r → All Q (k r)) → All Q (seq (sign s ts) k)
All-sign s ts k f = All-seq k (signed s ts) (λ c r h. rw h.0 (f r h.1))

-- the first tokens are of a tree, in front of the rest, and its code was read
pub record Reads {A : Type 0} (D : A → List Token → List Token → Type 0) (f : A → List Ins) (ts : List Token) (c : List Ins) (r : List Token) : Type 0 where
  pub tree : A
  pub pre : List Token
  pub derives : D tree pre r
  pub eq : ts ≡ pre ++ r
  pub code : c ≡ f tree

module _ {A : Type 0} {D : A → List Token → List Token → Type 0} {f : A → List Ins} {ts : List Token} where
  pub reads : {c : List Ins} {r : List Token} (a : A) (p : List Token) → D a p r → ts ≡ p ++ r → c ≡ f a → Reads D f ts c r
  reads a p d e h = record { tree = a; pre = p; derives = d; eq = e; code = h }

  pub All-read : {Q : List Ins → List Token → Type 0} {x : Res} (k : List Token → Res) → All (Reads D f ts) x
      → ((a : A) (p r : List Token) → D a p r → ts ≡ p ++ r → All (λ d q. Q (f a ++ d) q) (k r)) → All Q (seq x k)
  All-read k a g = All-seq k a (λ c r h. rw h.code (g h.tree h.pre r h.derives h.eq))
