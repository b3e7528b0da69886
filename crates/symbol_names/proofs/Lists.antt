-- A list of names: what it encodes is read, what is read is encoded, and there is one reading. Assumes nothing.
use Prim.Native.Nat.{ℕ, zero, suc, ◌+◌, ◌-◌, ◌<◌, ◌≤◌}
use mathlib.Core.Path.{◌≡◌, refl, sym, ap, ◌∙◌}
use mathlib.Core.Bool.{Bool, true, false, cond}
use mathlib.Core.List.{List, [], ◌∷◌, ◌++◌}
use mathlib.Core.Option.{Option, none, some}
use native.Mathlib.Omega.{arith}
use borrow.Author.Tests.{le-leb, lt-leb, leb-true}
use lib.ListN.{length, take, drop, length-drop, length-append, take-append-drop}
use lib.Seq.{take_at, drop_at, length-take-le}
use lib.Dec.{leb}
use Rattle.base_laws.proofs.Choice.{cond-true, cond-false}
use Rattle.symbol_names.specs.Form.{Names, list_bytes}
use Rattle.symbol_names.specs.inside.Asking.{before, entries, list_of, name_among, name_in}
use Rattle.symbol_names.specs.Claims.{ListRead, ListEncoded, OneList, NameInList, NoNameInOther}

-- ---- enough steps

-- as many steps as bytes are enough
enough : (k m : ℕ) (s : List ℕ) → length s ≤ k → length s ≤ m → entries k s ≡ entries m s
unfolding entries
enough zero zero [] h g = refl
enough zero (suc m) [] h g = refl
enough (suc k) zero [] h g = refl
enough (suc k) (suc m) [] h g = refl
enough zero m (b ∷ s) h g = absurd (omega arith)
enough (suc k) zero (b ∷ s) h g = absurd (omega arith)
enough (suc k) (suc m) (b ∷ s) h g =
    let d : length (drop b s) ≡ length s - b = length-drop b s in
    ap (λ (r : Option Names). cond (leb b (length s)) (before (take b s) r) none) (enough k m (drop b s) (omega arith) (omega arith))

pub list-none : list_of [] ≡ some []
unfolding list_of entries
list-none = refl

-- a length byte with its bytes, then the rest
pub list-entry : (b : ℕ) (s : List ℕ) → b ≤ length s → list_of (b ∷ s) ≡ before (take b s) (list_of (drop b s))
unfolding list_of entries
list-entry b s h =
    let d : length (drop b s) ≡ length s - b = length-drop b s in
    cond-true _ _ (le-leb _ _ h) ∙ ap (before (take b s)) (enough (length s) (length (drop b s)) (drop b s) (omega arith) (omega arith))

pub list-cut : (b : ℕ) (s : List ℕ) → length s < b → list_of (b ∷ s) ≡ none
unfolding list_of entries
list-cut b s h = cond-false _ _ (lt-leb _ _ h)

-- ---- both ways

pub list-here : (names : Names) → list_of (list_bytes names) ≡ some names
unfolding list_bytes
list-here [] = list-none
list-here (name ∷ names) =
    let r = list_bytes names in
    let l : length (name ++ r) ≡ length name + length r = length-append name r in
    cc (list-entry (length name) (name ++ r) (omega arith), take_at name r (length name) refl, drop_at name r (length name) refl, list-here names)

pub list_read : ListRead
list_read bytes names e = sym (ap list_of e) ∙ list-here names

pub one_list : OneList
one_list names others e = cc (list-here names, list-here others)

-- what is read stands there
back : (k : ℕ) (s : List ℕ) (names : Names) → entries k s ≡ some names → list_bytes names ≡ s
unfolding entries list_bytes
back zero [] names e = cc
back (suc k) [] names e = cc
back zero (b ∷ s) names e = go (leb b (length s)) e
  where
    go : (t : Bool) → cond t none none ≡ some names → list_bytes names ≡ b ∷ s
    go true f = cc
    go false f = cc
back (suc k) (b ∷ s) names e = go (λ others f. back k (drop b s) others f) (leb b (length s)) refl
  where
    found : ((others : Names) → entries k (drop b s) ≡ some others → list_bytes others ≡ drop b s)
        → (o : Option Names) → entries k (drop b s) ≡ o → b ≤ length s → before (take b s) o ≡ some names → list_bytes names ≡ b ∷ s
    found ih none f h g = cc
    found ih (some others) f h g = cc (length-take-le b s h, ih others f, take-append-drop b s)

    go : ((others : Names) → entries k (drop b s) ≡ some others → list_bytes others ≡ drop b s) → (t : Bool) → leb b (length s) ≡ t → list_bytes names ≡ b ∷ s
    go ih true f = found ih (entries k (drop b s)) refl (leb-true _ _ f) (sym (cond-true _ _ f) ∙ e)
    go ih false f = let g : none ≡ some names = sym (cond-false _ _ f) ∙ e in cc

pub list-encoded : ListEncoded
unfolding list_of
list-encoded bytes names e = back (length bytes) bytes names e

pub name-in-list : NameInList
unfolding name_in
name-in-list names symbol = ap (λ (o : Option Names). name_among o symbol) (list-here names)

pub no-name-in-other : NoNameInOther
unfolding name_in
no-name-in-other bytes symbol h = go (list_of bytes) refl
  where
    go : (o : Option Names) → list_of bytes ≡ o → name_among o symbol ≡ []
    go none e = refl
    go (some names) e = absurd (h names (list-encoded bytes names e))
