-- From what a call of the reading code ensures to what its caller must ensure.
use Rattle.std.proofs.Common.{◌≡◌, ℕ, suc, ◌+◌, ◌-◌, ◌<◌, ◌≤◌, Bool, true, false, cond, List, [], ◌∷◌, ◌++◌, map, length, take, drop, set, sym, refl, ap, ◌∙◌, subst, add-zero, arith, length-append, length-drop, drop-drop}
use lib.ListN.{length-map}
use lib.Seq.{sets, length-sets, take-set-le}
use Rattle.base_laws.proofs.Lists.{map-append}
use Rattle.orchestra_tokens.specs.declared.Token.{Token}
use Rattle.orchestra_syntax.specs.inside.Program.{Ins}
use Rattle.std.specs.Prelude.{Some, None}
use Rattle.orchestra_expressions.specs.Roles.{sign_l}
use Rattle.orchestra_expressions.specs.Reader.{Res, ok, seq, sign, emit}
use Rattle.orchestra_expressions.specs.Areas.{ParseState, Areas, op_of, arg_of, val_of, stored, stored_at, one_more, passed, left, Holds, Place, Ready, gone, come, Runs, refused, done, StoredStays}
use Rattle.orchestra_expressions.proofs.Moves.{same_at, same_out, sign-in}
use Rattle.orchestra_expressions.proofs.Results.{All, some, All-weaken}

-- ---- stores in a row

sets-append : {A : Type 0} (l : List A) (i : ℕ) (u v : List A) → sets (sets l i u) (i + length u) v ≡ sets l i (u ++ v)
sets-append l i [] v = rw add-zero
sets-append l i (a ∷ u) v = ap (λ k. sets (sets (set l i a) (suc i) u) k v) (omega arith) ∙ sets-append (set l i a) (suc i) u v

stored-in : {B : Type 0} (f : Ins → B) (a : List B) (out : ℕ) (u v : List Ins)
    → sets (sets a out (map f u)) (out + length u) (map f v) ≡ sets a out (map f (u ++ v))
stored-in f a out u v =
    let n : out + length u ≡ out + length (map f u) = ap (λ k. out + k) (sym (length-map u f)) in
    rw (n, sets-append, map-append)

stored-append : (m : Areas) (out : ℕ) (u v : List Ins) → stored (stored m out u) (out + length u) v ≡ stored m out (u ++ v)
stored-append m out u v i = record {
  ops = stored-in op_of m.ops out u v i;
  args = stored-in arg_of m.args out u v i;
  vals = stored-in val_of m.vals out u v i;
}

-- stores change no length
pub holds-stored : {n : ℕ} {m : Areas} (out : ℕ) (c : List Ins) → Holds n m → Holds n (stored m out c)
holds-stored {m = m} out c h = record {
  ops = rw (length-sets m.ops out (map op_of c)) h.ops;
  args = rw (length-sets m.args out (map arg_of c)) h.args;
  vals = rw (length-sets m.vals out (map val_of c)) h.vals;
}

pub holds-less : {n k : ℕ} {m : Areas} → k ≤ n → Holds n m → Holds k m
holds-less le h = record { ops = omega (arith, h.ops); args = omega (arith, h.args); vals = omega (arith, h.vals) }

-- ---- readings in a row

pub runs_seq : {ts : List Token} {f : List Token → Res} (k : List Token → Res) {g h i : ParseState} {m n u : Areas}
    → Runs ts f g m h n → Runs ts k h n i u → Runs ts (λ z. seq (f z) k) g m i u
runs_seq k (gone e f q) (gone x y r) = gone e y (r ∙ q)
runs_seq k (gone e f q) (refused at out d x w y r) = let z : ◌≡◌ {A = ℕ} 0 1 = cc in absurd (omega arith)
runs_seq k (gone e f q) (done at out to c x w le y s) = let z : ◌≡◌ {A = ℕ} 0 1 = cc in absurd (omega arith)
runs_seq k (refused at out c e v f q) (gone x y r) = refused at out c e (rw v) y (r ∙ q)
runs_seq k (refused at out c e v f q) (refused at' out' d x w y r) = let z : ◌≡◌ {A = ℕ} 0 1 = cc in absurd (omega arith)
runs_seq k (refused at out b e v f q) (done at' out' to c x w le y s) = let z : ◌≡◌ {A = ℕ} 0 1 = cc in absurd (omega arith)
runs_seq k (done at out to c e v le f s) (gone x y r) = let z : ◌≡◌ {A = ℕ} 0 1 = cc in absurd (omega arith)
runs_seq k {m = m} (done at out to c e v le f s) (refused at' out' d x w y s') =
    let p : at' ≡ to = same_at x f in
    let q : out' ≡ out + length c = same_out x f in
    refused at out (c ++ d) e (rw (v, rw p at w)) y
    (s' ∙ ap (λ z. stored z out' d) s ∙ ap (λ z. stored (stored m out c) z d) q ∙ stored-append m out c d)
runs_seq {ts} k {m = m} {u = u} (done at out to c e v le f s) (done at' out' to' d x w le' y s') =
    let p : at' ≡ to = same_at x f in
    let q : out' ≡ out + length c = same_out x f in
    let l : out' + length d ≡ out + length (c ++ d) = omega (arith, length-append c d) in
    done at out to' (c ++ d) e (rw (v, rw p at w)) le' (rw l at y)
    (s' ∙ ap (λ z. stored z out' d) s ∙ ap (λ z. stored (stored m out c) z d) q ∙ stored-append m out c d)

-- the first token, and a reading of those after it
pub drop-one : (ts : List Token) (at : ℕ) → drop 1 (drop at ts) ≡ drop (at + 1) ts
drop-one ts at = drop-drop 1 at ts

module _ {ts : List Token} {f : List Token → Res} {m n : Areas} {h : ParseState} where
  -- another definition that reads from p what f reads from at
  runs-from : (k : List Token → Res) (at p : ℕ) {out : ℕ} {g i : ParseState} → g ≡ Some (at, out) → i ≡ Some (p, out) → k (drop p ts) ≡ f (drop at ts) → Runs ts f g m h n
      → Runs ts k i m h n
  runs-from k at p q j l (gone e x s) = let z : ◌≡◌ {A = ℕ} 0 1 = cc in absurd (omega arith)
  runs-from k at p {out} q j l (refused a o c e v x s) =
      let y : at ≡ a = same_at q e in
      let w : o ≡ out = same_out e q in
      refused p out c j (l ∙ ap (λ z. f (drop z ts)) y ∙ v) x (rw w at s)
  runs-from k at p {out} q j l (done a o to c e v le x s) =
      let y : at ≡ a = same_at q e in
      let w : o ≡ out = same_out e q in
      done p out to c j (l ∙ ap (λ z. f (drop z ts)) y ∙ v) le (rw w at x) (rw w at s)

  pub runs_after : {at out : ℕ} → Runs ts f (Some (at + 1, out)) m h n → Runs ts (λ z. f (drop 1 z)) (Some (at, out)) m h n
  runs_after {at} = runs-from _ (at + 1) at refl refl (ap f (drop-one ts at))

  pub runs_as : {at out : ℕ} {g : ParseState} (k : List Token → Res) → g ≡ Some (at, out) → k (drop at ts) ≡ f (drop at ts) → Runs ts f g m h n → Runs ts k g m h n
  runs_as {at} k q l = runs-from k at at q q l

-- the same reading by another name, and to the same place by another name
pub runs-law : {ts : List Token} {f : List Token → Res} (k : List Token → Res) {g h : ParseState} {m n : Areas} → ((z : List Token) → k z ≡ f z)
    → Runs ts f g m h n → Runs ts k g m h n
runs-law k l (gone e x q) = gone e x q
runs-law {ts} k l (refused at out c e v x q) = refused at out c e (l (drop at ts) ∙ v) x q
runs-law {ts} k l (done at out to c e v le x s) = done at out to c e (l (drop at ts) ∙ v) le x s

pub runs_to : {ts : List Token} {f : List Token → Res} {g h k : ParseState} {m n : Areas} → h ≡ k → Runs ts f g m h n → Runs ts f g m k n
runs_to {ts} {f} {g} {m = m} {n = n} e r = subst (λ (z : ParseState). Runs ts f g m z n) e r

-- a reader that goes by its first token, where that says h
pub runs_by : {K : Type 0} (ts : List Token) (at : ℕ) {out : ℕ} {g r : ParseState} {m n : Areas} (F : List Token → Res) (L : List Token → K)
    (by : K → List Token → Res) {k : K} (h : K) (f : List Token → Res) → ((z : List Token) → F z ≡ by (L z) z) → ((z : List Token) → by h z ≡ f (drop 1 z)) → g ≡ Some (at, out) → k ≡ L (drop at ts) → k ≡ h
    → Runs ts f (Some (at + 1, out)) m r n → Runs ts F g m r n
runs_by ts at F L by h f law l q x y w =
    let z : L (drop at ts) ≡ h = sym x ∙ y in
    rw q (runs_as F refl (law (drop at ts) ∙ rw z (l (drop at ts))) (runs_after w))

pub runs-sign : (ts : List Token) (s : ℕ) (g : ParseState) {h : ParseState} {m : Areas} → h ≡ passed s ts g → Runs ts (sign s) g m h m
runs-sign ts s None e = gone refl e refl
runs-sign ts s (Some (at, out)) {m = m} e = go (sign_l (drop at ts) s) refl e
  where
    go : {h : ParseState} (b : Bool) → sign_l (drop at ts) s ≡ b → h ≡ cond b (Some (at + 1, out)) None → Runs ts (sign s) (Some (at, out)) m h m
    go true f q = let lt = sign-in ts at s f in
        done at out (at + 1) [] refl (rw (f, drop-one ts at)) (omega arith) (q ∙ ap (λ z. Some (at + 1, z)) (omega arith)) refl
    go false f q = refused at out [] refl (rw f) q refl

-- nothing more is read
pub stays : {ts : List Token} {f : List Token → Res} {k at out : ℕ} {g : ParseState} {m : Areas} → Ready ts k g m → g ≡ Some (at, out)
    → f (drop at ts) ≡ ok [] (drop at ts) → Runs ts f g m g m
stays (gone e) q x = let z : ◌≡◌ {A = ℕ} 0 1 = cc in absurd (omega arith)
stays {at = at} {out = out} (come p o e le r) q x =
    let y : p ≡ at = same_at e q in
    done at out at [] q x (omega arith) (q ∙ ap (λ z. Some (at, z)) (omega arith)) refl

took-ok : {P : List Ins → List Token → Type 0} {c : List Ins} {r : List Token} → All P (ok c r) → P c r
took-ok (some h) = h

pub took_of : {P : List Ins → List Token → Type 0} {x : Res} {c : List Ins} {r : List Token} → All P x → x ≡ ok c r → P c r
took_of all e = took-ok (rw e at all)

module _ {ts : List Token} {k : ℕ} {g : ParseState} {m : Areas} where
  pub runs-emit : {h : ParseState} {n : Areas} (i : Ins) → Ready ts k g m → h ≡ one_more g → n ≡ stored_at g m i → Runs ts (emit i) g m h n
  runs-emit i (gone e) x y = gone e (x ∙ rw e) (y ∙ rw e)
  runs-emit i (come at out e le r) x y = done at out at (i ∷ []) e refl le (x ∙ rw e) (y ∙ rw e)

  -- ---- room for what comes next, and fewer tokens

  pub ready-place : Ready ts (suc k) g m → Place g m
  ready-place (gone e) = record { fits = λ at out q. let z : ◌≡◌ {A = ℕ} 0 1 = cc in absurd (omega arith) }
  ready-place (come at out e le r) = record { fits = λ p o q. let z : o ≡ out = same_out q e in rw z (holds-less (omega arith) r) }

  pub ready-less : {j : ℕ} → j ≤ k → Ready ts k g m → Ready ts j g m
  ready-less le (gone e) = gone e
  ready-less le (come at out e l r) = come at out e l (holds-less (omega arith) r)

  pub ready-emit : {h : ParseState} {n : Areas} (i : Ins) → Ready ts (suc k) g m → h ≡ one_more g → n ≡ stored_at g m i → Ready ts k h n
  ready-emit i (gone e) x y = gone (x ∙ rw e)
  ready-emit i (come at out e le r) x y =
      let z : out + 1 + k + (length ts - at) ≡ out + suc k + (length ts - at) = omega arith in
      come at (out + 1) (x ∙ rw e) le (rw (y, e, z) (holds-stored out (i ∷ []) r))

  pub ready-sign : (s : ℕ) {h : ParseState} → Ready ts k g m → h ≡ passed s ts g → Ready ts (suc k) h m
  ready-sign s (gone e) x = gone (x ∙ rw e)
  ready-sign s {h} (come at out e le r) x = go (sign_l (drop at ts) s) refl (x ∙ ap (passed s ts) e)
    where
      go : (b : Bool) → sign_l (drop at ts) s ≡ b → h ≡ cond b (Some (at + 1, out)) None → Ready ts (suc k) h m
      go true f q = let lt = sign-in ts at s f in come (at + 1) out q (omega arith) (holds-less (omega arith) r)
      go false f q = gone q

-- room, and fewer tokens left than t
pub record Past (ts : List Token) (t k : ℕ) (g : ParseState) (m : Areas) : Type 0 where
  pub ready : Ready ts k g m
  pub less : left ts g < t

-- a reading of surplus j takes j tokens more than it gives instructions
pub record Took (j : ℕ) (ts : List Token) (c : List Ins) (r : List Token) : Type 0 where
  pub room : length c + j + length r ≤ length ts

module _ {ts : List Token} {f : List Token → Res} {g h : ParseState} {m n : Areas} (j : ℕ) (b : (z : List Token) → All (Took j z) (f z)) where
  -- so that there is room for j more instructions
  pub ready-took : {k : ℕ} → Ready ts k g m → Runs ts f g m h n → Ready ts (k + j) h n
  ready-took r (gone e x q) = gone x
  ready-took r (refused at out c e v x q) = gone x
  ready-took (gone q) (done at out to c e v le x s) = let z : ◌≡◌ {A = ℕ} 0 1 = cc in absurd (omega arith)
  ready-took (come p o q l r) (done at out to c e v le x s) =
      let y : p ≡ at = same_at q e in
      let w : o ≡ out = same_out q e in
      let t = took_of (b (drop at ts)) v in
      come to (out + length c) x le (rw s (holds-stored out c (holds-less (omega (arith, t.room, length-drop to ts, length-drop at ts)) r)))

  -- and the tokens left never grow
  left-keeps : Runs ts f g m h n → left ts h ≤ left ts g
  left-keeps (gone e x q) = rw (x, e) (omega arith)
  left-keeps (refused at out c e v x q) = rw x (omega arith)
  left-keeps (done at out to c e v le x s) = let t = took_of (b (drop at ts)) v in rw (x, e) (omega (arith, t.room, length-drop to ts, length-drop at ts))

  pub left-took : (at : ℕ) {out : ℕ} → Runs ts f g m h n → h ≡ Some (at, out) → left ts h + j ≤ left ts g
  left-took at (gone e x s) q = let z : ◌≡◌ {A = ℕ} 0 1 = cc in absurd (omega arith)
  left-took at (refused p o c e v x s) q = let z : ◌≡◌ {A = ℕ} 0 1 = cc in absurd (omega arith)
  left-took at (done p o to c e v le x s) q = let t = took_of (b (drop p ts)) v in rw (x, e) (omega (arith, t.room, length-drop to ts, length-drop p ts))

  pub past-took : {t k : ℕ} → Past ts t k g m → Runs ts f g m h n → Past ts t (k + j) h n
  past-took p r = record { ready = ready-took p.ready r; less = omega (arith, p.less, left-keeps r) }

-- a first reading that took a token more than it gave instructions
pub past_first : {ts : List Token} {f : List Token → Res} {t k : ℕ} {g h : ParseState} {m n : Areas} (j : ℕ) {at out : ℕ} → ((z : List Token) → All (Took (suc j) z) (f z))
    → Ready ts k g m → left ts g ≡ t → Runs ts f g m h n → h ≡ Some (at, out) → Past ts t (k + suc j) h n
past_first j {at} b r e x q = record { ready = ready-took (suc j) b r x; less = omega (arith, left-took (suc j) b at x q) }

left_passed : (ts : List Token) (s : ℕ) (g : ParseState) → left ts (passed s ts g) ≤ left ts g
left_passed ts s None = omega arith
left_passed ts s (Some (at, out)) = go (sign_l (drop at ts) s)
  where
    go : (b : Bool) → left ts (cond b (Some (at + 1, out)) None) ≤ length ts - at
    go true = omega arith
    go false = omega arith

left-more : (ts : List Token) (g : ParseState) → left ts (one_more g) ≡ left ts g
left-more ts None = refl
left-more ts (Some (at, out)) = refl

module _ {ts : List Token} {t k : ℕ} {g : ParseState} {m : Areas} where
  pub past-ready : Past ts t k g m → Ready ts 0 g m
  past-ready p = ready-less (omega arith) p.ready

  pub past-place : Past ts t (suc k) g m → Place g m
  past-place p = ready-place p.ready

  pub past-runs : {f : List Token → Res} {h : ParseState} {n : Areas} → ((z : List Token) → All (λ c r. length c + length r ≤ length z) (f z)) → Past ts t k g m
      → Runs ts f g m h n → Past ts t k h n
  past-runs b p r =
      let q = past-took 0 (λ z. All-weaken (b z) (λ c r h. record { room = omega arith })) p r in
      record { ready = ready-less (omega arith) q.ready; less = q.less }

  pub past-sign : (s : ℕ) {h : ParseState} → Past ts t k g m → h ≡ passed s ts g → Past ts t (suc k) h m
  past-sign s p e = record { ready = ready-sign s p.ready e; less = rw e (omega (arith, p.less, left_passed ts s g)) }

  pub past-emit : {h : ParseState} {n : Areas} (i : Ins) → Past ts t (suc k) g m → h ≡ one_more g → n ≡ stored_at g m i → Past ts t k h n
  past-emit i p e f = record { ready = ready-emit i p.ready e f; less = rw (e, left-more ts g) p.less }

-- past the first token
pub past-start : {ts : List Token} {t k : ℕ} {g : ParseState} {m : Areas} {at out : ℕ} → Ready ts k g m → g ≡ Some (at, out) → left ts g ≡ t → at < length ts
    → Past ts t (suc k) (Some (at + 1, out)) m
past-start (gone x) q e lt = let z : ◌≡◌ {A = ℕ} 0 1 = cc in absurd (omega arith)
past-start {ts} {at = at} {out = out} (come p o x le r) q e lt =
    let y : p ≡ at = same_at x q in
    let w : o ≡ out = same_out x q in
    record {
      ready = come (at + 1) out refl (omega arith) (holds-less (omega arith) r);
      less = let z : length ts - at ≡ _ = sym (ap (left ts) q) ∙ e in omega arith;
    }

-- past a first sign
pub past-passed : {ts : List Token} {t k : ℕ} {g : ParseState} {m : Areas} (s : ℕ) {h : ParseState} {at out : ℕ} → Ready ts k g m → left ts g ≡ t → h ≡ passed s ts g
    → h ≡ Some (at, out) → Past ts t (suc k) h m
past-passed {ts} {t} {g = g} s {h} {at} {out} r e x q = record { ready = ready-sign s r x; less = go g e (sym x ∙ q) }
  where
    on : (p o : ℕ) (b : Bool) → sign_l (drop p ts) s ≡ b → length ts - p ≡ t → cond {A = ParseState} b (Some (p + 1, o)) None ≡ Some (at, out) → left ts h < t
    on p o true f e y = let lt = sign-in ts p s f in let z : at ≡ p + 1 = same_at refl (sym y) in rw q (omega arith)
    on p o false f e y = let z : ◌≡◌ {A = ℕ} 0 1 = cc in absurd (omega arith)

    go : (g : ParseState) → left ts g ≡ t → passed s ts g ≡ Some (at, out) → left ts h < t
    go None e y = let z : ◌≡◌ {A = ℕ} 0 1 = cc in absurd (omega arith)
    go (Some (p, o)) e y = on p o (sign_l (drop p ts) s) refl e y

-- ---- what stays

sets-front : {A : Type 0} (l : List A) (i j : ℕ) (xs : List A) → i ≤ j → take i (sets l j xs) ≡ take i l
sets-front l i j [] h = refl
sets-front l i j (x ∷ xs) h = sets-front (set l j x) i (suc j) xs (omega arith) ∙ take-set-le i l j x h

pub stored-stays : StoredStays
stored-stays m out c =
    record {
      ops = sets-front m.ops out out (map op_of c) (omega arith);
      args = sets-front m.args out out (map arg_of c) (omega arith);
      vals = sets-front m.vals out out (map val_of c) (omega arith);
      sizes = (length-sets m.ops out (map op_of c), (length-sets m.args out (map arg_of c), length-sets m.vals out (map val_of c)));
    }
