-- The code of a pass has no more outputs and reads no more numbers than its statements have.
use Prim.Native.Nat.{ℕ, suc, ◌+◌, ◌≤◌, ◌<◌}
use native.Mathlib.Omega.{arith}
use mathlib.Core.Path.{◌≡◌, sym, ap, ◌∙◌}
use mathlib.Core.Bool.{Bool, true, false, cond}
use mathlib.Core.List.{List, [], ◌∷◌, ◌++◌}
use lib.Dec.{eqb}
use lib.Ieee.{Float}
use Rattle.orchestra_syntax.specs.Tree.{Expr, number, name, unary, binary, choose, Statements, done, assign, output, branch}
use Rattle.orchestra_syntax.specs.inside.Placed.{rate_of, place_of}
use Rattle.orchestra_signs.specs.Operators.{Unary, Binary}
use Rattle.code_operations.specs.Operations as O
use Rattle.code_operations.specs.Operations.{Operation, named, outputs}
use Rattle.code_operations.specs.Words.{frame_places, room_places, most_ifs, most_parts, program_size, op_of, first_of, second_of, third_of, word}
use Rattle.code_operations.proofs.Numbering.{named-number, number_small}
use Rattle.code_translation.specs.Translation.{instruction, guard_at, part_at, number_at, after, placed, parts_to, parts, bare, into, selected, stored, sent, joined, guarded, turned, behind, past, lowered}
use Rattle.code_translation.specs.Statements.{depth, Workable, Playable}
use Rattle.code_translation.proofs.Exprs.{after_more, depth_pos, placed-small}
use Rattle.code_decoder.specs.Decoded.{count_at, count_in, count_of}
use Rattle.code_decoder.proofs.SameRun.{count-few}
use Rattle.code_decoder.proofs.WordParts.{count_none}
use Rattle.engine_rows.specs.Instruction.{out_of, outs_of}
use Rattle.engine_capacity.specs.Capacity.{numbers_in, numbers_of, outputs_of}

-- ---- code behind code

pub count-append : (xs ys : List ℕ) → count_of (xs ++ ys) ≡ count_of xs + count_of ys
unfolding count_of
count-append [] ys = omega arith
count-append (x ∷ xs) ys = omega (arith, count-append xs ys)

pub outs-append : (xs ys : List ℕ) → outs_of (xs ++ ys) ≡ outs_of xs + outs_of ys
unfolding outs_of
outs-append [] ys = omega arith
outs-append (x ∷ xs) ys = omega (arith, outs-append xs ys)

count-nothing : count_of [] ≤ 0
unfolding count_of
count-nothing = omega arith

outs-nothing : outs_of [] ≤ 0
unfolding outs_of
outs-nothing = omega arith

count-behind : (xs ys : List ℕ) → count_of (behind xs ys) ≤ count_of xs + count_of ys
unfolding behind count_of
count-behind xs [] = omega arith
count-behind xs (y ∷ ys) = omega (arith, count-append xs (y ∷ ys))

outs-behind : (xs ys : List ℕ) → outs_of (behind xs ys) ≤ outs_of xs + outs_of ys
unfolding behind outs_of
outs-behind xs [] = omega arith
outs-behind xs (y ∷ ys) = omega (arith, outs-append xs (y ∷ ys))

count-either : (k : ℕ) (b : Bool) (x y : List ℕ) → count_of x ≤ k → count_of y ≤ k → count_of (cond b x y) ≤ k
count-either k true x y h l = h
count-either k false x y h l = l

outs-either : (k : ℕ) (b : Bool) (x y : List ℕ) → outs_of x ≤ k → outs_of y ≤ k → outs_of (cond b x y) ≤ k
outs-either k true x y h l = h
outs-either k false x y h l = l

-- ---- one instruction

op-of : (o : Operation) (t a b c : ℕ) → op_of (instruction o t a b c) ≡ O.number o
unfolding word
op-of o t a b c = let h = number_small o in omega arith

outs-one : (o : Operation) (t a b c : ℕ) → outs_of (instruction o t a b c ∷ []) ≡ outputs o
unfolding outs_of out_of
outs-one o t a b c =
    let e : outputs (named (op_of (instruction o t a b c))) ≡ outputs o = ap (λ (n : ℕ). outputs (named n)) (op-of o t a b c) ∙ ap outputs (named-number o) in
    omega (arith, e)

module _ (o : Operation) (t a b c : ℕ) (ht : t < room_places) (ha : a < room_places) (hb : b < room_places) (hc : c < room_places) where
  first-of : first_of (instruction o t a b c) ≡ a
  unfolding word
  first-of = let h = number_small o in omega arith

  second-of : second_of (instruction o t a b c) ≡ b
  unfolding word
  second-of = let h = number_small o in omega arith

  third-of : third_of (instruction o t a b c) ≡ c
  unfolding word
  third-of = let h = number_small o in omega arith

  count-one : count_of (instruction o t a b c ∷ []) ≡ count_at a + (count_at b + count_at c)
  unfolding count_of count_in
  count-one = let e : count_in (instruction o t a b c) ≡ count_at a + (count_at b + count_at c) = rw (first-of, second-of, third-of) in omega (arith, e)

low : (p : ℕ) → p < frame_places → count_at p ≡ 0
low p h = sym (count_none p h).0

-- ---- expressions

parts-count : (n d to : ℕ) (e : Expr) → d + depth e ≤ most_parts → after n e ≤ program_size → to < room_places → count_of (parts_to n d to e) + count_at (placed n d e) ≤ numbers_in e
unfolding parts_to placed numbers_in count_of depth after
parts-count n d to (number x) h s l = omega (arith, count-few (number_at n))
parts-count n d to (name c) h s l = omega (arith, low (place_of c) (omega arith))
parts-count n d to (unary o e) h s l =
    let w = instruction (O.unary o) to (placed n d e) 0 0 in
    let p = parts_to n d (part_at d) e in
    omega (
      arith,
      count-append p (w ∷ []),
      count-one (O.unary o) to (placed n d e) 0 0 l (placed-small n d e (omega (arith, depth_pos e)) (omega arith)) (omega arith) (omega arith),
      low 0 (omega arith),
      low (part_at d) (omega (arith, depth_pos e)),
      parts-count n d (part_at d) e h (omega arith) (omega (arith, depth_pos e)),
    )
parts-count n d to (binary o a b) h s l =
    let m = after n a in
    let p = parts_to n d (part_at d) a in
    let q = parts_to m (suc d) (part_at (suc d)) b in
    let w = instruction (O.binary o) to (placed n d a) (placed m (suc d) b) 0 in
    omega (
      arith,
      count-append (p ++ q) (w ∷ []),
      count-append p q,
      count-one (O.binary o) to (placed n d a) (placed m (suc d) b) 0 l (placed-small n d a (omega (arith, depth_pos a)) (omega (arith, after_more m b)))
          (placed-small m (suc d) b (omega (arith, depth_pos b)) (omega arith)) (omega arith),
      low 0 (omega arith),
      low (part_at d) (omega (arith, depth_pos a)),
      parts-count n d (part_at d) a (omega arith) (omega (arith, after_more m b)) (omega (arith, depth_pos a)),
      parts-count m (suc d) (part_at (suc d)) b (omega arith) (omega arith) (omega (arith, depth_pos b)),
    )
parts-count n d to (choose c a b) h s l =
    let m = after n c in
    let k = after m a in
    let p = parts_to n d (part_at d) c in
    let q = parts_to m (suc d) (part_at (suc d)) a in
    let r = parts_to k (suc (suc d)) (part_at (suc (suc d))) b in
    let w = instruction O.select to (placed n d c) (placed m (suc d) a) (placed k (suc (suc d)) b) in
    omega (
      arith,
      count-append ((p ++ q) ++ r) (w ∷ []),
      count-append (p ++ q) r,
      count-append p q,
      count-one O.select to (placed n d c) (placed m (suc d) a) (placed k (suc (suc d)) b) l
          (placed-small n d c (omega (arith, depth_pos c)) (omega (arith, after_more m a, after_more k b))) (placed-small m (suc d) a (omega (arith, depth_pos a)) (omega (arith, after_more k b)))
          (placed-small k (suc (suc d)) b (omega (arith, depth_pos b)) (omega arith)),
      low (part_at d) (omega (arith, depth_pos c)),
      parts-count n d (part_at d) c (omega arith) (omega (arith, after_more m a, after_more k b)) (omega (arith, depth_pos c)),
      parts-count m (suc d) (part_at (suc d)) a (omega arith) (omega (arith, after_more k b)) (omega (arith, depth_pos a)),
      parts-count k (suc (suc d)) (part_at (suc (suc d))) b (omega arith) (omega arith) (omega (arith, depth_pos b)),
    )

parts-outs : (n d to : ℕ) (e : Expr) → outs_of (parts_to n d to e) ≤ 0
unfolding parts_to outs_of
parts-outs n d to (number x) = omega arith
parts-outs n d to (name c) = omega arith
parts-outs n d to (unary o e) =
    let w = instruction (O.unary o) to (placed n d e) 0 0 in
    omega (arith, outs-append (parts_to n d (part_at d) e) (w ∷ []), outs-one (O.unary o) to (placed n d e) 0 0, parts-outs n d (part_at d) e)
parts-outs n d to (binary o a b) =
    let m = after n a in
    let p = parts_to n d (part_at d) a in
    let q = parts_to m (suc d) (part_at (suc d)) b in
    let w = instruction (O.binary o) to (placed n d a) (placed m (suc d) b) 0 in
    omega (
      arith,
      outs-append (p ++ q) (w ∷ []),
      outs-append p q,
      outs-one (O.binary o) to (placed n d a) (placed m (suc d) b) 0,
      parts-outs n d (part_at d) a,
      parts-outs m (suc d) (part_at (suc d)) b,
    )
parts-outs n d to (choose c a b) =
    let m = after n c in
    let k = after m a in
    let p = parts_to n d (part_at d) c in
    let q = parts_to m (suc d) (part_at (suc d)) a in
    let r = parts_to k (suc (suc d)) (part_at (suc (suc d))) b in
    let w = instruction O.select to (placed n d c) (placed m (suc d) a) (placed k (suc (suc d)) b) in
    omega (
      arith,
      outs-append ((p ++ q) ++ r) (w ∷ []),
      outs-append (p ++ q) r,
      outs-append p q,
      outs-one O.select to (placed n d c) (placed m (suc d) a) (placed k (suc (suc d)) b),
      parts-outs n d (part_at d) c,
      parts-outs m (suc d) (part_at (suc d)) a,
      parts-outs k (suc (suc d)) (part_at (suc (suc d))) b,
    )

-- ---- one statement, its expression at n

module _ {vals : List Float} (n : ℕ) (e : Expr) (w : Workable vals n e) where
  abbrev p : ℕ
  p = placed n 0 e

  p-small : p < room_places
  p-small = placed-small n 0 e (omega arith) w.short

  alone : (to : ℕ) → to < room_places → count_of (parts_to n 0 to e) + count_at p ≤ numbers_in e
  alone to l = parts-count n 0 to e (omega (arith, w.deep)) w.short l

  count-into : (to : ℕ) → to < room_places → count_of (into n to e) ≤ numbers_in e
  unfolding into
  count-into to l =
      count-either (numbers_in e) (bare e) (instruction O.copy to p 0 0 ∷ []) (parts_to n 0 to e)
      (omega (arith, count-one O.copy to p 0 0 l p-small (omega arith) (omega arith), low 0 (omega arith), alone to l)) (omega (arith, alone to l))

  -- the expression's code and one word more, which reads it and nothing else that is a number
  count-last : (v : ℕ) → count_of (v ∷ []) ≤ count_at p → count_of (parts n 0 e ++ v ∷ []) ≤ numbers_in e
  count-last v h = omega (arith, count-append (parts n 0 e) (v ∷ []), alone (part_at 0) (omega arith))

  pub count-stored : (g to : ℕ) → g ≤ most_ifs → to < frame_places → count_of (stored g n to e) ≤ numbers_in e
  unfolding stored
  count-stored g to i l =
      count-either (numbers_in e) (eqb g 0) (into n to e) (parts n 0 e ++ selected g to p ∷ []) (count-into to (omega arith))
      (count-last (selected g to p) (omega (arith, count-one O.select to (guard_at g) p to (omega arith) (omega arith) p-small (omega arith), low (guard_at g) (omega arith), low to l)))

  pub count-sent : (g : ℕ) → g ≤ most_ifs → count_of (parts n 0 e ++ sent g p ∷ []) ≤ numbers_in e
  unfolding sent
  count-sent g i = go (eqb g 0)
    where
      go : (b : Bool) → count_of (parts n 0 e ++ cond b (instruction O.output 0 p 0 0) (instruction O.guarded_output 0 (guard_at g) p 0) ∷ []) ≤ numbers_in e
      go true = count-last (instruction O.output 0 p 0 0) (omega (arith, count-one O.output 0 p 0 0 (omega arith) p-small (omega arith) (omega arith), low 0 (omega arith)))
      go false =
          count-last (instruction O.guarded_output 0 (guard_at g) p 0)
          (omega (arith, count-one O.guarded_output 0 (guard_at g) p 0 (omega arith) (omega arith) p-small (omega arith), low (guard_at g) (omega arith), low 0 (omega arith)))

  pub count-guarded : (g : ℕ) → g < most_ifs → count_of (guarded g n e) ≤ numbers_in e
  unfolding guarded
  count-guarded g i =
      count-either (numbers_in e) (eqb g 0) (into n (guard_at 1) e) (parts n 0 e ++ joined g p ∷ []) (count-into (guard_at 1) (omega arith))
      (count-last (joined g p)
      (omega (arith, count-one (O.binary Binary.and) (guard_at (suc g)) (guard_at g) p 0 (omega arith) (omega arith) p-small (omega arith), low (guard_at g) (omega arith), low 0 (omega arith))))

count-turned : (g : ℕ) → g < most_ifs → count_of (turned g) ≤ 0
unfolding turned
count-turned g i =
    let m = guard_at (suc g) in
    let v = instruction (O.unary Unary.not) m m 0 0 in
    let more = cond (eqb g 0) [] (joined g m ∷ []) in
    let z : count_of (v ∷ []) ≡ 0 = omega (arith, count-one (O.unary Unary.not) m m 0 0 (omega arith) (omega arith) (omega arith) (omega arith), low m (omega arith), low 0 (omega arith)) in
    let y : count_of more ≤ 0 =
    count-either 0 (eqb g 0) [] (joined g m ∷ []) count-nothing
    (omega (arith, count-one (O.binary Binary.and) m (guard_at g) m 0 (omega arith) (omega arith) (omega arith) (omega arith), low m (omega arith), low (guard_at g) (omega arith), low 0 (omega arith))) in
    omega (arith, count-append (v ∷ []) more)

outs-last : (n : ℕ) (e : Expr) (o : Operation) (t a b c : ℕ) → outs_of (parts n 0 e ++ instruction o t a b c ∷ []) ≤ outputs o
outs-last n e o t a b c = omega (arith, outs-append (parts n 0 e) (instruction o t a b c ∷ []), outs-one o t a b c, parts-outs n 0 (part_at 0) e)

outs-into : (n to : ℕ) (e : Expr) → outs_of (into n to e) ≤ 0
unfolding into
outs-into n to e = outs-either 0 (bare e) _ _ (omega (arith, outs-one O.copy to (placed n 0 e) 0 0)) (parts-outs n 0 to e)

outs-stored : (g n to : ℕ) (e : Expr) → outs_of (stored g n to e) ≤ 0
unfolding stored
outs-stored g n to e = outs-either 0 (eqb g 0) _ _ (outs-into n to e) (outs-last n e O.select to (guard_at g) (placed n 0 e) to)

outs-guarded : (g n : ℕ) (e : Expr) → outs_of (guarded g n e) ≤ 0
unfolding guarded
outs-guarded g n e = outs-either 0 (eqb g 0) _ _ (outs-into n (guard_at 1) e) (outs-last n e (O.binary Binary.and) (guard_at (suc g)) (guard_at g) (placed n 0 e) 0)

outs-sent : (g n : ℕ) (e : Expr) → outs_of (parts n 0 e ++ sent g (placed n 0 e) ∷ []) ≤ 1
unfolding sent
outs-sent g n e = go (eqb g 0)
  where
    p : ℕ
    p = placed n 0 e

    go : (b : Bool) → outs_of (parts n 0 e ++ cond b (instruction O.output 0 p 0 0) (instruction O.guarded_output 0 (guard_at g) p 0) ∷ []) ≤ 1
    go true = outs-last n e O.output 0 p 0 0
    go false = outs-last n e O.guarded_output 0 (guard_at g) p 0

outs-turned : (g : ℕ) → outs_of (turned g) ≤ 0
unfolding turned
outs-turned g =
    let m = guard_at (suc g) in
    let more = cond (eqb g 0) [] (joined g m ∷ []) in
    let y : outs_of more ≤ 0 = outs-either 0 (eqb g 0) [] (joined g m ∷ []) outs-nothing (omega (arith, outs-one (O.binary Binary.and) m (guard_at g) m 0)) in
    omega (arith, outs-one (O.unary Unary.not) m m 0 0, outs-append (instruction (O.unary Unary.not) m m 0 0 ∷ []) more)

-- ---- statements

pub count-lowered : (vals : List Float) (r n g : ℕ) (t : Statements) → Playable vals n g t → g ≤ most_ifs → count_of (lowered r n g t) ≤ numbers_of t
unfolding lowered numbers_of count_of Playable
count-lowered vals r n g done w i = omega arith
count-lowered vals r n g (assign c e t) w i =
    let k = suc (after n e) in
    let x = cond (eqb (rate_of c) r) (stored g n (place_of c) e) [] in
    omega (
      arith,
      count-append x (lowered r k g t),
      count-either (numbers_in e) (eqb (rate_of c) r) (stored g n (place_of c) e) [] (count-stored n e w.0 g (place_of c) i (omega arith)) (omega arith),
      count-lowered vals r k g t w.1 i,
    )
count-lowered vals r n g (output e t) w i =
    let k = suc (after n e) in
    let y = parts n 0 e ++ sent g (placed n 0 e) ∷ [] in
    omega (
      arith,
      count-append (cond (eqb r 2) y []) (lowered r k g t),
      count-either (numbers_in e) (eqb r 2) y [] (count-sent n e w.0 g i) (omega arith),
      count-lowered vals r k g t w.1 i,
    )
count-lowered vals r n g (branch e a b t) w i =
    let m = suc (after n e) in
    let k = suc (past m a) in
    let l = suc (past k b) in
    let x = lowered r m (suc g) a in
    let y = behind (turned g) (lowered r k (suc g) b) in
    let f = w.1.0 in
    omega (
      arith,
      count-append (behind (guarded g n e) (x ++ y)) (lowered r l g t),
      count-behind (guarded g n e) (x ++ y),
      count-append x y,
      count-behind (turned g) (lowered r k (suc g) b),
      count-guarded n e w.0 g f,
      count-turned g f,
      count-lowered vals r m (suc g) a w.1.1.0 (omega (arith, f)),
      count-lowered vals r k (suc g) b w.1.1.1.0 (omega (arith, f)),
      count-lowered vals r l g t w.1.1.1.1 i,
    )

pub outs-lowered : (r n g : ℕ) (t : Statements) → outs_of (lowered r n g t) ≤ outputs_of t
unfolding lowered outputs_of outs_of
outs-lowered r n g done = omega arith
outs-lowered r n g (assign c e t) =
    let k = suc (after n e) in
    let x = cond (eqb (rate_of c) r) (stored g n (place_of c) e) [] in
    omega (
      arith,
      outs-append x (lowered r k g t),
      outs-either 0 (eqb (rate_of c) r) (stored g n (place_of c) e) [] (outs-stored g n (place_of c) e) (omega arith),
      outs-lowered r k g t,
    )
outs-lowered r n g (output e t) =
    let k = suc (after n e) in
    let y = parts n 0 e ++ sent g (placed n 0 e) ∷ [] in
    omega (
      arith,
      outs-append (cond (eqb r 2) y []) (lowered r k g t),
      outs-either 1 (eqb r 2) y [] (outs-sent g n e) (omega arith),
      outs-lowered r k g t,
    )
outs-lowered r n g (branch e a b t) =
    let m = suc (after n e) in
    let k = suc (past m a) in
    let l = suc (past k b) in
    let x = lowered r m (suc g) a in
    let y = behind (turned g) (lowered r k (suc g) b) in
    omega (
      arith,
      outs-append (behind (guarded g n e) (x ++ y)) (lowered r l g t),
      outs-behind (guarded g n e) (x ++ y),
      outs-append x y,
      outs-behind (turned g) (lowered r k (suc g) b),
      outs-guarded g n e,
      outs-turned g,
      outs-lowered r m (suc g) a,
      outs-lowered r k (suc g) b,
      outs-lowered r l g t,
    )
