-- The first pass: a table's names measured, and the table judged. Assumes nothing.
use Prim.Native.Nat.{ℕ, suc, ◌+◌, ◌-◌, ◌*◌, ◌^◌, ◌<◌, ◌≤◌}
use mathlib.Core.Path.{◌≡◌, refl, sym, ap, ap₂, ◌∙◌, subst}
use mathlib.Core.Bool.{Bool, true, false, cond}
use mathlib.Core.List.{List, ◌∷◌, ◌++◌}
use native.Mathlib.Omega.{arith}
use borrow.Author.Tests.{leb-true, le-leb, lt-ltb, le-ltb, ltb-true, ltb-false}
use lib.ListN.{length, take, drop, length-drop, length-append}
use lib.Seq.{drop_at, drop-drop, length-take-le}
use borrow.Table.Steps.{cases}
use lib.Dec.{leb, ltb}
use Rattle.base_bitstream.proofs.Filling.{length-bytes_from}
use Rattle.base_laws.proofs.Choice.{cond-true, cond-false}
use Rattle.base_answer.specs.declared.Answer.{Answer}
use Rattle.base_answer.specs.declared.Answer.TheVariants.{CutShort, LeftOver}
use Rattle.base_bitstream.specs.Bits.{bits_of, value_of}
use Rattle.base_bitstream.specs.inside.Fields.{Room}
use Rattle.base_bitstream.specs.Fields.{read_at}
use Rattle.base_bitstream.specs.Filling.{filled, bytes_from}
use Rattle.std.specs.Prelude.{Option, Some, None, Result, Ok, Err}
use Rattle.std.proofs.lemmas.Option.{some_pair_parts, none-some}
use Rattle.base_bitstream.proofs.BitValues.{length-bits_of, value_of-lt}
use Rattle.base_bitstream.proofs.Fields.{read_back, room-yes}
use Rattle.symbol_names.specs.Form.{Names, count_bits, length_bits, names_bits, list_bytes, holds, refused}
use Rattle.symbol_names.specs.inside.Reading.{Read, got, cut, and_then, number_from, names_from, table_from, is_filling, judged, table_of}
use Rattle.symbol_names.proofs.Table.{Met, whole, begun, Many, names-met}
use Rattle.symbol_unpacker.specs.Passes.{number_at, names_of, Counted, measured, judgement}
use Rattle.symbol_unpacker.proofs.Steps.{past, names-cut-length, names-cut, names-next}

pub record Measures (table : List ℕ) (count at total i : ℕ) : Type 0 where
  pub counted : i ≤ count
  pub few : count < 2 ^ 16
  pub near : at ≤ 16 + 124 * i
  pub small : total ≤ 16 * i
  pub inside : at ≤ 8 * length table
  pub same : measured (bits_of table) total (names_from (count - i) (drop at (bits_of table))) ≡ measured (bits_of table) 0 (names_of table count)

pub measure-starts : (table : List ℕ) (count : ℕ) → Counted table count → Measures table count 16 0 0
unfolding names_of
measure-starts table count h =
    record { counted = omega arith; few = h.few; near = omega arith; small = omega arith; inside = h.long; same = ap (λ (k : ℕ). measured (bits_of table) 0 (names_from k (drop 16 (bits_of table)))) (omega arith) }

-- one name more
name-measured : (bits : List Bool) (total n : ℕ) (name : List ℕ) (m : Read Names) → length name ≡ n
    → measured bits total (and_then m (λ names q. got (name ∷ names) q)) ≡ measured bits (total + 1 + n) m
unfolding list_bytes
name-measured bits total n name (got names q) e =
    let l : length (name ++ list_bytes names) ≡ length name + length (list_bytes names) = length-append name (list_bytes names) in
    let k : total + suc (length (name ++ list_bytes names)) ≡ total + 1 + n + length (list_bytes names) = omega arith in
    ap (λ (x : ℕ). Some (length bits - length q, x)) k
name-measured bits total n name cut e = refl

module _ {table : List ℕ} {count at total i : ℕ} (m : Measures table count at total i) (h : i < count) where
  abbrev bits : List Bool
  bits = bits_of table

  abbrev others : ℕ
  others = count - (i + 1)

  -- one name less is still to come
  left : count - i ≡ suc others
  left = omega arith

  module _ {b : Bool} (b₁ : b ≡ ltb (8 * length table) (at + 4)) where
    pub measure-cut-length : b ≡ true → None ≡ measured bits 0 (names_of table count)
    measure-cut-length b₂ =
        let f = ltb-true (8 * length table) (at + 4) (sym b₁ ∙ b₂) in
        cc (left, names-cut-length bits others at (omega (arith, length-bits_of table)), m.same)

    module _ (b₂ : b ≡ false) where
      there : at + 4 ≤ 8 * length table
      there = ltb-false _ _ (sym b₁ ∙ b₂)

      pub measure-room : Room (8 * length table) at 4
      measure-room = record { width = omega arith; near = omega (arith, m.near, m.few); within = there }

      module _ {n : ℕ} {c : Bool} (e : (n ≡ number_at bits at 4) × (n < 2 ^ 4)) (c₁ : c ≡ ltb (8 * length table) (at + 4 + 8 * n)) where
        pub measure-again : c ≡ false → Measures table count (at + 4 + 8 * n) (total + 1 + n) (i + 1)
        measure-again c₂ =
            let g = ltb-false (8 * length table) (at + 4 + 8 * n) (sym c₁ ∙ c₂) in
            let name = bytes_from (number_at bits at length_bits) (drop (at + length_bits) bits) in
            let long : length name ≡ n = length-bytes_from (number_at bits at length_bits) (drop (at + length_bits) bits) ∙ sym e.0 in
            let more = name-measured bits total n name (names_from others (drop (past bits at) bits)) long in
            let l = length-bits_of table in
            record {
              counted = omega arith;
              few = m.few;
              near = omega (arith, m.near, e.1);
              small = omega (arith, m.small, e.1);
              inside = g;
              same = cc (e.0, left, more, names-next bits others at (omega (arith, there)) (omega (arith, e.0)), m.same);
            }

        pub measure-cut : c ≡ true → None ≡ measured bits 0 (names_of table count)
        measure-cut c₂ =
            let g = ltb-true (8 * length table) (at + 4 + 8 * n) (sym c₁ ∙ c₂) in
            let l = length-bits_of table in
            cc (left, names-cut bits others at (omega (arith, there)) (omega (arith, e.0)), m.same)

pub measure-ends : {table : List ℕ} {count at total i : ℕ} → Measures table count at total i → count ≤ i → Some (at, total) ≡ measured (bits_of table) 0 (names_of table count)
unfolding names_from list_bytes
measure-ends {table} {count} {at} {total} {i} m h =
    let bits = bits_of table in
    let z : count - i ≡ 0 = omega arith in
    let s = rw z at m.same in
    let e : at ≡ length bits - length (drop at bits) = omega (arith, m.inside, length-bits_of table, length-drop at bits) in
    let t : total ≡ total + 0 = omega arith in
    ap₂ (λ (x y : ℕ). Some (x, y)) e t ∙ s

-- ---- the whole table

-- behind the count that was read
pub record Opened (table : List ℕ) (count : ℕ) : Type 0 where
  pub counted : Counted table count
  pub same : table_of table ≡ judged (names_of table count)

pub opened : {g : Option (ℕ × ℕ)} {count p : ℕ} (table : List ℕ) → g ≡ read_at (bits_of table) 0 16 → g ≡ Some (count, p) → Opened table count
unfolding table_of table_from number_from names_of
opened {g} {count} {p} table e f =
    let bits = bits_of table in
    let r = read_back bits 0 16 count p (sym e ∙ f) in
    let h : 16 ≤ length bits = omega (arith, r.room) in
    record { counted = record { few = r.small; long = omega (arith, length-bits_of table) }; same = rw (le-leb 16 (length bits) h, r.value) }

pub is-counted : {g : Option (ℕ × ℕ)} {count p : ℕ} (table : List ℕ) → g ≡ read_at (bits_of table) 0 16 → g ≡ Some (count, p) → Counted table count
is-counted table e f = (opened table e f).counted

pub not_opened : {g : Option (ℕ × ℕ)} (table : List ℕ) → g ≡ read_at (bits_of table) 0 16 → g ≡ None → Err CutShort ≡ judgement (table_of table)
unfolding table_of table_from number_from read_at
not_opened table e f =
    cases (leb 16 (length (bits_of table)))
    (λ h. let y = leb-true 16 (length (bits_of table)) h in absurd (none-some (value_of (take 16 (bits_of table)), 16) (sym f ∙ e ∙ rw (room-yes (length (bits_of table)) 0 16 (omega arith) (omega arith) (omega arith))))) (λ h. rw h)

-- what is behind the names
past_all : (p a : ℕ) → ltb (p + a) (p + 8) ≡ ltb a 8
past_all p a = cases (ltb a 8) (λ h. let k = ltb-true a 8 h in cc (lt-ltb (p + a) (p + 8) (omega arith)))
    (λ h. let k = ltb-false a 8 h in cc (le-ltb (p + a) (p + 8) (omega arith)))

filling-behind : (bits b r : List Bool) → count_bits ≤ length bits → drop count_bits bits ≡ b ++ r → filled bits (length bits - length r) ≡ is_filling r
unfolding filled
filling-behind bits b r h e =
    let n : length bits - count_bits ≡ length b + length r = cc (length-drop count_bits bits, length-append b r) in
    let p : length bits - length r ≡ count_bits + length b = omega arith in
    let k : length bits ≡ count_bits + length b + length r = omega arith in
    let d : drop (count_bits + length b) bits ≡ r = cc (drop-drop (length b) count_bits bits, drop_at b r (length b) refl) in
    rw (p, d) (cc (past_all (count_bits + length b) (length r)))

ended : {end total : ℕ} (bits : List Bool) (count : ℕ) → count_bits ≤ length bits → (m : Read Names) → Met names_bits (Many count) (drop count_bits bits) m
    → measured bits 0 m ≡ Some (end, total) → judgement (judged m) ≡ cond (filled bits end) (Ok (count, total)) (Err LeftOver)
ended {end} {total} bits count h m (begun a b d g e) f = absurd (none-some _ f)
ended {end} {total} bits count h m (whole names r g e) f =
    let p = some_pair_parts _ _ _ _ f in
    let z : length (list_bytes names) ≡ total = omega (arith, p.1) in
    let y = filling-behind bits (names_bits names) r h e in
    cases (is_filling r) (λ w. cc (cond-true (holds names) (refused LeftOver) w, g.0, p.0)) (λ w. cc (p.0, cond-false (holds names) (refused LeftOver) w))

cut_off : (m : Read Names) (bits : List Bool) → measured bits 0 m ≡ None → judgement (judged m) ≡ Err CutShort
cut_off cut bits e = refl
cut_off (got names r) bits e = absurd (none-some _ (sym e))

module _ {end total : ℕ} {x : Option (ℕ × ℕ)} {b : Bool} (table : List ℕ) (count : ℕ) (o : Opened table count) (e : x ≡ measured (bits_of table) 0 (names_of table count))
    (f : x ≡ Some (end, total)) (g : b ≡ filled (bits_of table) end) where
  judge-ends : judgement (table_of table) ≡ cond b (Ok (count, total)) (Err LeftOver)
  unfolding names_of
  judge-ends =
      let rest = drop count_bits (bits_of table) in
      cc (o.same, ended (bits_of table) count (omega (arith, o.counted.long, length-bits_of table)) (names_from count rest) (names-met count rest) (sym e ∙ f))

  pub judge-holds : b ≡ true → Ok (count, total) ≡ judgement (table_of table)
  judge-holds h = sym (judge-ends ∙ cond-true _ _ h)

  pub judge-left-over : b ≡ false → Err LeftOver ≡ judgement (table_of table)
  judge-left-over h = sym (judge-ends ∙ cond-false _ _ h)

pub judge-cut : {x : Option (ℕ × ℕ)} (table : List ℕ) (count : ℕ) → Opened table count → x ≡ measured (bits_of table) 0 (names_of table count) → x ≡ None
    → Err CutShort ≡ judgement (table_of table)
judge-cut table count o e f = sym (ap judgement o.same ∙ cut_off (names_of table count) (bits_of table) (sym e ∙ f))

-- ---- a table that is taken

-- names that were read from behind the count, all of them
pub record Held (table : List ℕ) (count total : ℕ) : Type 0 where
  pub counted : Counted table count
  pub names : Names
  pub rest : List Bool
  pub read : names_of table count ≡ got names rest
  pub size : length (list_bytes names) ≡ total
  pub same : table_of table ≡ holds names

same_ok : {A : Type 0} {x y : A} → ◌≡◌ {A = Result A Answer} (Ok x) (Ok y) → x ≡ y
same_ok e = cc

held-names : {count total : ℕ} (table : List ℕ) (k : ℕ) → Opened table k → (m : Read Names) → names_of table k ≡ m → Met names_bits (Many k) (drop count_bits (bits_of table)) m
    → judgement (judged m) ≡ Ok (count, total) → Held table count total
held-names table k o m e (begun a b d g f) h = cc
held-names {count} {total} table k o m e (whole names r g f) h =
    cases (is_filling r)
    (λ w.
    let j : (length names, length (list_bytes names)) ≡ (count, total) = same_ok (sym (ap judgement (cond-true (holds names) (refused LeftOver) w)) ∙ h) in
    let c : length names ≡ count = ap (λ (x : ℕ × ℕ). x.0) j in
    let t : length (list_bytes names) ≡ total = ap (λ (x : ℕ × ℕ). x.1) j in
    let n : k ≡ count = cc g.0 in
    record { counted = subst (Counted table) n o.counted; names = names; rest = r; read = cc; size = t; same = o.same ∙ ap judged e ∙ cond-true _ _ w })
    (λ w. let j : Err LeftOver ≡ Ok (count, total) = sym (ap judgement (cond-false (holds names) (refused LeftOver) w)) ∙ h in cc)

pub held : {count total : ℕ} {j : Result (ℕ × ℕ) Answer} (table : List ℕ) → j ≡ judgement (table_of table) → j ≡ Ok (count, total) → Held table count total
unfolding table_of table_from number_from names_of
held {count} {total} {j} table e f =
    let bits = bits_of table in
    let k = value_of (take 16 bits) in
    cases (leb 16 (length bits))
    (λ h.
    let b = leb-true 16 (length bits) h in
    let s = length-take-le 16 bits b in
    let i : table_of table ≡ judged (names_of table k) = rw h in
    let o : Opened table k = record { counted = record { few = rw s at (value_of-lt (take 16 bits)); long = omega (arith, length-bits_of table) }; same = i } in
    held-names table k o (names_of table k) refl (names-met k (drop count_bits bits)) (sym (ap judgement i) ∙ sym e ∙ f))
    (λ h.
    let i : table_of table ≡ refused CutShort = rw h in
    let y : Err CutShort ≡ Ok (count, total) = sym (ap judgement i) ∙ sym e ∙ f in cc)
