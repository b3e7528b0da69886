-- What the reader finds is what the bytes say, for all bytes.
use mathlib.Core.Path.{◌≡◌, refl, sym, ap, ◌∙◌, subst, subst⁻¹}
use mathlib.Core.Bool.{true, cond, ◌&&◌, true≢false}
use mathlib.Core.List.{List, [], ◌∷◌, ◌++◌, append_assoc}
use mathlib.Core.Logic.{inl, inr}
use Prim.Native.Nat.{ℕ, zero, suc, ◌-◌, ◌/◌, ◌%◌, ◌≤◌}
use native.Mathlib.Omega.{arith}
use native.Mathlib.Nat.{div-add-mod'}
use lib.Dec.{leb, ltb, eqb}
use lib.ListN.{length, take, drop, get_or, length-append, length-take, take-append-drop}
use borrow.Author.Tests.{le-leb, leb-true, ltb-true, ltb-false, eqb-true, eqb-false}
use Rattle.base_laws.proofs.Choice.{both_true}
use Rattle.base_answer.specs.Numbers.{is_taken}
use Rattle.base_answer.specs.declared.Answer.TheVariants.{OutOfRange}
use Rattle.settings_records.specs.declared.Setting.{Setting}
use Rattle.settings_records.specs.Form.{Found}
use Rattle.settings_records.specs.Form.{version_one, version_two, sixteen_bits, setting, version_one_tempo, Valid, found, refused_as, Body, first, second, Parses, cut_length, cut_record, length_zero, other_version, wrong_length, bad_number, valid}
use Rattle.settings_records.specs.inside.Reading.{within_of, judged_of, of_version, behind_length, found_in}
use Rattle.settings_records.specs.Claims.{EveryRecord, OneMeaning, ReadsBack}
use Rattle.settings_records.proofs.Ways.{read_short, read-cut, read-zero, read_one, read-one-length, read-two, read-two-length, read-other, behind}
use Rattle.settings_records.proofs.Walk.{by-test}

-- ---- a record's numbers

within-true : (x most : ℕ) → within_of x most ≡ true → (1 ≤ x) × (x ≤ most)
unfolding within_of
within-true x most e = let b = both_true (leb 1 x) (leb x most) e in (leb-true 1 x b.0, leb-true x most b.1)

within-is : (x most : ℕ) → (1 ≤ x) × (x ≤ most) → within_of x most ≡ true
unfolding within_of
within-is x most h = (λ i. le-leb 1 x h.0 i && le-leb x most h.1 i)

-- valid or not
judged-cases : (P : Found → Type 0) (c n t size : ℕ) → (Valid (setting c n t) → P (found (setting c n t) size)) → ((Valid (setting c n t) → ⊥) → P (refused_as OutOfRange))
    → P (judged_of c n t size)
unfolding judged_of
judged-cases P c n t size f g =
    by-test P (within_of c 32767) _ _
    (λ a. by-test P (within_of n 16) _ _
    (λ b. by-test P (within_of t 960) _ _
    (λ d. f (record { ceiling = within-true c 32767 a; notes = within-true n 16 b; tempo = within-true t 960 d }))
    (λ d. g (λ l. true≢false (sym (within-is t 960 l.tempo) ∙ d))))
    (λ b. g (λ l. true≢false (sym (within-is n 16 l.notes) ∙ b))))
    (λ a. g (λ l. true≢false (sym (within-is c 32767 l.ceiling) ∙ a)))

judged-valid : (c n t size : ℕ) → Valid (setting c n t) → judged_of c n t size ≡ found (setting c n t) size
judged-valid c n t size l = judged-cases (λ (x : Found). x ≡ found (setting c n t) size) c n t size (λ k. refl) (λ bad. absurd (bad l))

judged-bad : (c n t size : ℕ) → (Valid (setting c n t) → ⊥) → judged_of c n t size ≡ refused_as OutOfRange
judged-bad c n t size bad = judged-cases (λ (x : Found). x ≡ refused_as OutOfRange) c n t size (λ k. absurd (bad k)) (λ k. refl)

-- ---- bodies

one-body : (body : List ℕ) → length body ≡ 3 → (s : Setting) × Body 1 body s
one-body [] e = absurd (omega arith)
one-body (a ∷ []) e = absurd (omega arith)
one-body (a ∷ b ∷ []) e = absurd (omega arith)
one-body (a ∷ b ∷ n ∷ []) e = (setting (sixteen_bits a b) n version_one_tempo, first)
one-body (a ∷ b ∷ n ∷ c ∷ bs) e = absurd (omega arith)

two-body : (body : List ℕ) → length body ≡ 5 → (s : Setting) × Body 2 body s
two-body [] e = absurd (omega arith)
two-body (a ∷ []) e = absurd (omega arith)
two-body (a ∷ b ∷ []) e = absurd (omega arith)
two-body (a ∷ b ∷ n ∷ []) e = absurd (omega arith)
two-body (a ∷ b ∷ n ∷ c ∷ []) e = absurd (omega arith)
two-body (a ∷ b ∷ n ∷ c ∷ d ∷ []) e = (setting (sixteen_bits a b) n (sixteen_bits c d), second)
two-body (a ∷ b ∷ n ∷ c ∷ d ∷ x ∷ bs) e = absurd (omega arith)

-- the length behind the version byte
body_length : ℕ → ℕ
body_length v = cond (eqb v 1) 3 5

body-long : {v : ℕ} {body : List ℕ} {s : Setting} → Body v body s → length body ≡ body_length v
unfolding body_length
body-long first = refl
body-long second = refl

-- ---- what bytes say is found

there : (high low version : ℕ) (body rest : List ℕ) → sixteen_bits high low ≡ suc (length body) → sixteen_bits high low ≤ length (high ∷ low ∷ version ∷ (body ++ rest)) - 2
there high low version body rest e = omega (arith, e, length-append body rest)

some : (high low n : ℕ) → sixteen_bits high low ≡ suc n → sixteen_bits high low ≡ 0 → ⊥
some high low n e z = omega (arith, e, z)

said : {bs : List ℕ} {f : Found} → Parses bs f → found_in bs ≡ f
said (cut_length {bs} h) = sym (read_short bs h refl)
said (cut_record {high} {low} {part} l) = sym (read-cut (high ∷ low ∷ part) (omega arith) refl (omega (arith, l)) refl)
said (length_zero {high} {low} {rest} z) = sym (read-zero (high ∷ low ∷ rest) (omega arith) refl (omega (arith, z)) z refl)
said (other_version {high} {low} {version} body rest e n₁ n₂) =
    sym (read-other (high ∷ low ∷ version ∷ (body ++ rest)) (omega arith) refl (there high low version body rest e) (some high low _ e) n₁ n₂ refl)
said (wrong_length {high} {low} {version} body rest e (inl q) bad) =
    sym (read-one-length (high ∷ low ∷ version ∷ (body ++ rest)) (omega arith) refl (there high low version body rest e) (some high low _ e) q
    (λ w. let b = one-body body (omega (arith, e, w)) in bad b.0 (subst⁻¹ (λ (x : ℕ). Body x body b.0) q b.1)) refl)
said (wrong_length {high} {low} {version} body rest e (inr q) bad) =
    sym (read-two-length (high ∷ low ∷ version ∷ (body ++ rest)) (omega arith) refl (there high low version body rest e) (some high low _ e)
    (λ u. omega (arith, u, q)) q
    (λ w. let b = two-body body (omega (arith, e, w)) in bad b.0 (subst⁻¹ (λ (x : ℕ). Body x body b.0) q b.1)) refl)
said (bad_number {high} {low} rest e (first {a} {b} {n}) bad) =
    sym (read_one (high ∷ low ∷ 1 ∷ a ∷ b ∷ n ∷ rest) (omega arith) refl (omega (arith, e)) (λ z. omega (arith, e, z)) refl e refl refl)
    ∙ judged-bad (sixteen_bits a b) n version_one_tempo 6 bad
said (bad_number {high} {low} rest e (second {a} {b} {n} {c} {d}) bad) =
    sym (read-two (high ∷ low ∷ 2 ∷ a ∷ b ∷ n ∷ c ∷ d ∷ rest) (omega arith) refl (omega (arith, e)) (λ z. omega (arith, e, z)) (λ u. omega (arith, u)) refl e refl refl refl)
    ∙ judged-bad (sixteen_bits a b) n (sixteen_bits c d) 8 bad
said (valid {high} {low} rest e (first {a} {b} {n}) l) =
    sym (read_one (high ∷ low ∷ 1 ∷ a ∷ b ∷ n ∷ rest) (omega arith) refl (omega (arith, e)) (λ z. omega (arith, e, z)) refl e refl refl)
    ∙ judged-valid (sixteen_bits a b) n version_one_tempo 6 l
said (valid {high} {low} rest e (second {a} {b} {n} {c} {d}) l) =
    sym (read-two (high ∷ low ∷ 2 ∷ a ∷ b ∷ n ∷ c ∷ d ∷ rest) (omega arith) refl (omega (arith, e)) (λ z. omega (arith, e, z)) (λ u. omega (arith, u)) refl e refl refl refl)
    ∙ judged-valid (sixteen_bits a b) n (sixteen_bits c d) 8 l

pub one-meaning : OneMeaning
one-meaning bs f s = said s

-- ---- what is found is said

module _ (high low : ℕ) where
  -- a version 1 record of the right length
  says-one : (bs : List ℕ) → sixteen_bits high low ≡ 4 → 3 ≤ length bs
      → Parses (high ∷ low ∷ 1 ∷ bs) (judged_of (sixteen_bits (get_or bs 0 0) (get_or bs 1 0)) (get_or bs 2 0) version_one_tempo 6)
  says-one [] e h = absurd (omega arith)
  says-one (a ∷ []) e h = absurd (omega arith)
  says-one (a ∷ b ∷ []) e h = absurd (omega arith)
  says-one (a ∷ b ∷ n ∷ rest) e h =
      judged-cases (Parses (high ∷ low ∷ 1 ∷ a ∷ b ∷ n ∷ rest)) (sixteen_bits a b) n version_one_tempo 6 (λ l. valid rest e first l) (λ bad. bad_number rest e first bad)

  says_two : (bs : List ℕ) → sixteen_bits high low ≡ 6 → 5 ≤ length bs
      → Parses (high ∷ low ∷ 2 ∷ bs) (judged_of (sixteen_bits (get_or bs 0 0) (get_or bs 1 0)) (get_or bs 2 0) (sixteen_bits (get_or bs 3 0) (get_or bs 4 0)) 8)
  says_two [] e h = absurd (omega arith)
  says_two (a ∷ []) e h = absurd (omega arith)
  says_two (a ∷ b ∷ []) e h = absurd (omega arith)
  says_two (a ∷ b ∷ n ∷ []) e h = absurd (omega arith)
  says_two (a ∷ b ∷ n ∷ c ∷ []) e h = absurd (omega arith)
  says_two (a ∷ b ∷ n ∷ c ∷ d ∷ rest) e h =
      judged-cases (Parses (high ∷ low ∷ 2 ∷ a ∷ b ∷ n ∷ c ∷ d ∷ rest)) (sixteen_bits a b) n (sixteen_bits c d) 8 (λ l. valid rest e second l) (λ bad. bad_number rest e second bad)

  -- behind a length that is not zero, all of which is there
  module _ (v : ℕ) (bs : List ℕ) (m : ℕ) (e : sixteen_bits high low ≡ suc m) (h : m ≤ length bs) where
    part : m ≡ length (take m bs)
    part = sym (length-take m bs ∙ omega arith)

    cut-there : {f : Found} → Parses (high ∷ low ∷ v ∷ (take m bs ++ drop m bs)) f → Parses (high ∷ low ∷ v ∷ bs) f
    cut-there {f} s = subst (λ (x : List ℕ). Parses (high ∷ low ∷ v ∷ x) f) (take-append-drop m bs) s

    abbrev whole : List ℕ
    whole = high ∷ low ∷ v ∷ bs

    versioned : Parses whole (of_version whole (sixteen_bits high low) v)
    unfolding of_version body_length
    versioned =
        by-test (Parses whole) (eqb v 1) _ _
        (λ q. let w = eqb-true v 1 q in by-test (Parses whole) (eqb (sixteen_bits high low) 4) _ _
        (λ k. subst⁻¹ (λ (x : ℕ). Parses (high ∷ low ∷ x ∷ bs) (judged_of (sixteen_bits (get_or bs 0 0) (get_or bs 1 0)) (get_or bs 2 0) version_one_tempo 6)) w
        (says-one bs (eqb-true (sixteen_bits high low) 4 k) (omega (arith, e, h, eqb-true (sixteen_bits high low) 4 k))))
        (λ k. cut-there (wrong_length (take m bs) (drop m bs) (e ∙ ap suc part) (inl w)
        (λ s b. eqb-false (sixteen_bits high low) 4 k (e ∙ ap suc (part ∙ body-long b ∙ ap body_length w))))))
        (λ q. by-test (Parses whole) (eqb v 2) _ _
        (λ r. let w = eqb-true v 2 r in by-test (Parses whole) (eqb (sixteen_bits high low) 6) _ _
        (λ k. subst⁻¹ (λ (x : ℕ). Parses (high ∷ low ∷ x ∷ bs) (judged_of (sixteen_bits (get_or bs 0 0) (get_or bs 1 0)) (get_or bs 2 0) (sixteen_bits (get_or bs 3 0) (get_or bs 4 0)) 8)) w
        (says_two bs (eqb-true (sixteen_bits high low) 6 k) (omega (arith, e, h, eqb-true (sixteen_bits high low) 6 k))))
        (λ k. cut-there (wrong_length (take m bs) (drop m bs) (e ∙ ap suc part) (inr w)
        (λ s b. eqb-false (sixteen_bits high low) 6 k (e ∙ ap suc (part ∙ body-long b ∙ ap body_length w))))))
        (λ r. cut-there (other_version (take m bs) (drop m bs) (e ∙ ap suc part) (eqb-false v 1 q) (eqb-false v 2 r))))

  says-behind : (bs : List ℕ) (m : ℕ) → sixteen_bits high low ≡ suc m → suc m ≤ length bs → Parses (high ∷ low ∷ bs) (of_version (high ∷ low ∷ bs) (sixteen_bits high low) (get_or (high ∷ low ∷ bs) 2 0))
  says-behind [] m e h = absurd (omega arith)
  says-behind (v ∷ bs) m e h = versioned v bs m e (omega arith)

  more : (n : ℕ) → (n ≡ 0 → ⊥) → (m : ℕ) × (n ≡ suc m)
  more zero f = absurd (f refl)
  more (suc m) f = (m, refl)

  says-length : (bs : List ℕ) → Parses (high ∷ low ∷ bs) (behind_length (high ∷ low ∷ bs) (sixteen_bits high low))
  unfolding behind_length
  says-length bs =
      by-test (Parses (high ∷ low ∷ bs)) (ltb (length (high ∷ low ∷ bs) - 2) (sixteen_bits high low)) _ _
      (λ l. cut_record (omega (arith, ltb-true (length (high ∷ low ∷ bs) - 2) (sixteen_bits high low) l)))
      (λ l. by-test (Parses (high ∷ low ∷ bs)) (eqb (sixteen_bits high low) 0) _ _
      (λ z. length_zero (eqb-true (sixteen_bits high low) 0 z))
      (λ z. let m = more (sixteen_bits high low) (eqb-false (sixteen_bits high low) 0 z) in
      says-behind bs m.0 m.1 (omega (arith, m.1, ltb-false (length (high ∷ low ∷ bs) - 2) (sixteen_bits high low) l))))

pub every-record : EveryRecord
unfolding found_in
every-record [] = cut_length {bs = []} (omega arith)
every-record (b ∷ []) = cut_length {bs = b ∷ []} (omega arith)
every-record (high ∷ low ∷ bs) = subst (Parses (high ∷ low ∷ bs)) (behind (high ∷ low ∷ bs) (omega arith) refl) (says-length high low bs)

-- ---- what stands behind a record changes nothing

pub prefix : {b : List ℕ} {f : Found} → Parses b f → is_taken f.answer ≡ true → (rest : List ℕ) → found_in (b ++ rest) ≡ f
prefix (cut_length h) t rest = absurd (true≢false (sym t))
prefix (cut_record l) t rest = absurd (true≢false (sym t))
prefix (length_zero z) t rest = absurd (true≢false (sym t))
prefix (other_version body r e n₁ n₂) t rest = absurd (true≢false (sym t))
prefix (wrong_length body r e k bad) t rest = absurd (true≢false (sym t))
prefix (bad_number r e b bad) t rest = absurd (true≢false (sym t))
prefix (valid {high} {low} {version} {s} {body} r e b l) t rest =
    ap (λ (x : List ℕ). found_in (high ∷ low ∷ version ∷ x)) (append_assoc body r rest) ∙ said (valid {body = body} (r ++ rest) e b l)

-- ---- a valid record that is encoded

two_back : (n : ℕ) → sixteen_bits (n / 256) (n % 256) ≡ n
two_back n = omega (arith, div-add-mod' n 256)

pub reads-back : ReadsBack
reads-back (version_one c n) rest l =
    said (valid rest refl (first {a = c / 256} {b = c % 256} {n = n}) (subst⁻¹ (λ (x : ℕ). Valid (setting x n version_one_tempo)) (two_back c) l))
    ∙ ap (λ (x : ℕ). found (setting x n version_one_tempo) 6) (two_back c)
reads-back (version_two c n t) rest l =
    said (valid rest refl (second {a = c / 256} {b = c % 256} {n = n} {c = t / 256} {d = t % 256})
    (subst⁻¹ (λ (x : ℕ). Valid (setting x n (sixteen_bits (t / 256) (t % 256)))) (two_back c) (subst⁻¹ (λ (x : ℕ). Valid (setting c n x)) (two_back t) l)))
    ∙ (λ i. found (setting (two_back c i) n (two_back t i)) 8)
