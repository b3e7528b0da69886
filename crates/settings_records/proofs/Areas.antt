-- What the reader finds of the records in use is what stands in the area, for all bytes.
use mathlib.Core.Path.{◌≡◌, refl, sym, ap, ◌∙◌, subst, subst⁻¹}
use mathlib.Core.Bool.{Bool, true, false, cond, true≢false}
use mathlib.Core.List.{List, [], ◌∷◌, ◌++◌, append_assoc, append-nil}
use Prim.Native.Nat.{ℕ, zero, suc, ◌+◌, ◌-◌}
use native.Mathlib.Omega.{arith}
use lib.ListN.{length, drop, length-append}
use lib.Seq.{drop-append_seam}
use Rattle.base_laws.proofs.Choice.{cond-false}
use Rattle.base_answer.specs.Numbers.{is_taken}
use Rattle.base_answer.specs.declared.Answer.{Answer}
use Rattle.settings_records.specs.declared.Setting.{Setting}
use Rattle.settings_records.specs.Form.{Found}
use Rattle.settings_records.specs.Form.{setting, found, refused_as, Parses, cut_length, cut_record, length_zero, other_version, wrong_length, bad_number, valid, IsRecord, Records, none, next, ParsesRecords, all_valid, first_fault}
use Rattle.settings_records.specs.inside.Reading.{found_in, walked, records_in}
use Rattle.settings_records.specs.Claims.{EveryArea, OneMeaningRecords}
use Rattle.settings_records.proofs.Meaning.{every-record, one-meaning, prefix}

-- a fault is no answer 0
pub fault-is : {bs : List ℕ} {f : Found} → Parses bs f → f.size ≡ 0 → is_taken f.answer ≡ false
fault-is (cut_length h) e = refl
fault-is (cut_record l) e = refl
fault-is (length_zero z) e = refl
fault-is (other_version body r e n₁ n₂) q = refl
fault-is (wrong_length body r e k bad) q = refl
fault-is (bad_number r e b bad) q = refl
fault-is (valid {body = body} r e b l) q = absurd (omega (arith, q))

-- ---- one record more

-- the record behind those that were walked over
unfoldable pub extended : List ℕ → Found → Found
extended s f = cond (is_taken f.answer) (walked 1 s f.size f.setting) f

pub walked_more : (n : ℕ) (s : List ℕ) (at : ℕ) (last : Setting) → walked (suc n) s at last ≡ extended s (walked n s at last)
unfolding walked extended
walked_more zero s at last = refl
walked_more (suc n) s at last =
    go (is_taken (found_in (drop at s)).answer) refl (walked_more n s (at + (found_in (drop at s)).size) (found_in (drop at s)).setting)
  where
    f : Found
    f = found_in (drop at s)

    go : (b : Bool) → is_taken f.answer ≡ b → walked (suc n) s (at + f.size) f.setting ≡ extended s (walked n s (at + f.size) f.setting)
        → cond b (walked (suc n) s (at + f.size) f.setting) (refused_as f.answer) ≡ extended s (cond b (walked n s (at + f.size) f.setting) (refused_as f.answer))
    go true e rec = rec
    go false e rec = sym (cond-false _ _ e)

-- behind bytes that were walked over
module _ (bytes rest : List ℕ) (last : Setting) where
  extended-by : {f : Found} → found_in rest ≡ f → extended (bytes ++ rest) (found last (length bytes)) ≡ cond (is_taken f.answer) (found f.setting (length bytes + f.size)) (refused_as f.answer)
  unfolding extended walked
  extended-by {f} e =
      ap (λ (x : Found). cond (is_taken x.answer) (found x.setting (length bytes + x.size)) (refused_as x.answer)) (ap found_in (drop-append_seam bytes rest) ∙ e)

  extended-valid : {t : Setting} {size : ℕ} → found_in rest ≡ found t size → extended (bytes ++ rest) (found last (length bytes)) ≡ found t (length bytes + size)
  extended-valid e = extended-by e

  extended-fault : {a : Answer} → found_in rest ≡ refused_as a → is_taken a ≡ false → extended (bytes ++ rest) (found last (length bytes)) ≡ refused_as a
  extended-fault e t = extended-by e ∙ cond-false _ _ t

-- ---- what stands there is found

record-here : {b : List ℕ} {t : Setting} → IsRecord b t → (rest : List ℕ) → found_in (b ++ rest) ≡ found t (length b)
record-here s rest = prefix s refl rest

pub records-found : {n : ℕ} {bytes : List ℕ} {s : Setting} → Records n bytes s → (rest : List ℕ) → records_in n (bytes ++ rest) ≡ found s (length bytes)
unfolding walked
records-found none rest = refl
records-found (next {n} {before} {new} {s} {t} r i) rest =
    ap (records_in (suc n)) (append_assoc before new rest)
    ∙ walked_more n (before ++ (new ++ rest)) 0 (setting 0 0 0)
    ∙ ap (extended (before ++ (new ++ rest))) (records-found r (new ++ rest))
    ∙ extended-valid before (new ++ rest) s (record-here i rest)
    ∙ ap (found t) (sym (length-append before new))

-- behind a fault nothing is read
fault-stays : (n : ℕ) (area : List ℕ) → is_taken (records_in n area).answer ≡ false → records_in (suc n) area ≡ records_in n area
unfolding extended
fault-stays n area t = walked_more n area 0 (setting 0 0 0) ∙ cond-false _ _ t

fault-remains : (m n used : ℕ) (area : List ℕ) {a : Answer} → used ≡ m + n → is_taken a ≡ false → records_in n area ≡ refused_as a → records_in used area ≡ refused_as a
fault-remains zero n used area h t e = let same : used ≡ n = omega arith in ap (λ (k : ℕ). records_in k area) same ∙ e
fault-remains (suc m) n used area h t e =
    let same : used ≡ suc (m + n) = omega arith in
    let f = fault-remains m n (m + n) area refl t e in
    ap (λ (k : ℕ). records_in k area) same ∙ fault-stays (m + n) area (ap (λ (x : Found). is_taken x.answer) f ∙ t) ∙ f

parsed-records : {used : ℕ} {area : List ℕ} {f : Found} → ParsesRecords used area f → records_in used area ≡ f
parsed-records (all_valid rest r) = records-found r rest
parsed-records {used} (first_fault {n} {bytes} {rest} {s} {a} r h i) =
    let t : is_taken a ≡ false = fault-is i refl in
    let here : records_in (suc n) (bytes ++ rest) ≡ refused_as a =
    walked_more n (bytes ++ rest) 0 (setting 0 0 0) ∙ ap (extended (bytes ++ rest)) (records-found r rest) ∙ extended-fault bytes rest s (one-meaning rest _ i) t in
    fault-remains (used - suc n) (suc n) used (bytes ++ rest) (omega arith) t here

pub one-meaning-records : OneMeaningRecords
one-meaning-records used area f s = parsed-records s

-- ---- and what is found stands there

-- a valid record at the start of bytes is bytes of its own, and a rest
record Parted (bs : List ℕ) (f : Found) : Type 0 where
  own : List ℕ
  rest : List ℕ
  joined : bs ≡ own ++ rest
  long : f ≡ found f.setting (length own)
  whole : IsRecord own f.setting

parted : {bs : List ℕ} {f : Found} → Parses bs f → is_taken f.answer ≡ true → Parted bs f
parted (cut_length h) t = absurd (true≢false (sym t))
parted (cut_record l) t = absurd (true≢false (sym t))
parted (length_zero z) t = absurd (true≢false (sym t))
parted (other_version body r e n₁ n₂) t = absurd (true≢false (sym t))
parted (wrong_length body r e k bad) t = absurd (true≢false (sym t))
parted (bad_number r e b bad) t = absurd (true≢false (sym t))
parted (valid {high} {low} {version} {s} {body} rest e b l) t =
    let size : 3 + length body ≡ length (high ∷ low ∷ version ∷ body) = omega arith in
    record {
      own = high ∷ low ∷ version ∷ body;
      rest = rest;
      joined = refl;
      long = ap (found s) size;
      whole =
          subst (λ (n : ℕ). Parses (high ∷ low ∷ version ∷ body) (found s n)) size
          (subst (λ (x : List ℕ). Parses (high ∷ low ∷ version ∷ x) (found s (3 + length body))) (append-nil body) (valid [] e b l));
    }

pub content-refused : {bs : List ℕ} {f : Found} → Parses bs f → is_taken f.answer ≡ false → f ≡ refused_as f.answer
content-refused (cut_length h) t = refl
content-refused (cut_record l) t = refl
content-refused (length_zero z) t = refl
content-refused (other_version body r e n₁ n₂) t = refl
content-refused (wrong_length body r e k bad) t = refl
content-refused (bad_number r e b bad) t = refl
content-refused (valid r e b l) t = absurd (true≢false t)

shut : (s : List ℕ) (a : Answer) → is_taken a ≡ false → extended s (refused_as a) ≡ refused_as a
unfolding extended
shut s a t = cond-false _ _ t

one_more : {n : ℕ} {area : List ℕ} {f : Found} → ParsesRecords n area f → ParsesRecords (suc n) area (extended area f)
one_more {n} (first_fault {bytes = bytes} {rest = rest} {a = a} r h i) =
    subst⁻¹ (ParsesRecords (suc n) (bytes ++ rest)) (shut (bytes ++ rest) a (fault-is i refl)) (first_fault r (omega (arith, h)) i)
one_more {n} (all_valid {bytes} {s} rest r) = go (is_taken (found_in rest).answer) refl
  where
    go : (b : Bool) → is_taken (found_in rest).answer ≡ b → ParsesRecords (suc n) (bytes ++ rest) (extended (bytes ++ rest) (found s (length bytes)))
    go false t =
        let c = content-refused (every-record rest) t in
        subst⁻¹ (ParsesRecords (suc n) (bytes ++ rest)) (extended-fault bytes rest s c t)
        (first_fault r (omega arith) (subst (Parses rest) c (every-record rest)))
    go true t =
        let p = parted (every-record rest) t in
        let u = (found_in rest).setting in
        let same : extended (bytes ++ rest) (found s (length bytes)) ≡ found u (length (bytes ++ p.own)) =
        extended-valid bytes rest s p.long ∙ ap (found u) (sym (length-append bytes p.own)) in
        let area : bytes ++ rest ≡ (bytes ++ p.own) ++ p.rest = ap (λ (x : List ℕ). bytes ++ x) p.joined ∙ sym (append_assoc bytes p.own p.rest) in
        subst⁻¹ (ParsesRecords (suc n) (bytes ++ rest)) same
        (subst⁻¹ (λ (x : List ℕ). ParsesRecords (suc n) x (found u (length (bytes ++ p.own)))) area (all_valid p.rest (next r p.whole)))

pub every-area : EveryArea
unfolding walked
every-area zero area = all_valid area none
every-area (suc n) area = subst⁻¹ (ParsesRecords (suc n) area) (walked_more n area 0 (setting 0 0 0)) (one_more (every-area n area))

-- ---- for callers: all valid, or the first fault

shape-valid : {count : ℕ} {area : List ℕ} {f : Found} → ParsesRecords count area f → is_taken f.answer ≡ true → f ≡ found f.setting f.size
shape-valid (all_valid rest r) t = refl
shape-valid (first_fault r h i) t = absurd (true≢false (sym t ∙ fault-is i refl))

shape-fault : {count : ℕ} {area : List ℕ} {f : Found} → ParsesRecords count area f → is_taken f.answer ≡ false → f ≡ refused_as f.answer
shape-fault (all_valid rest r) t = absurd (true≢false t)
shape-fault (first_fault r h i) t = refl

module _ (count : ℕ) (area : List ℕ) where
  pub all-valid : is_taken (records_in count area).answer ≡ true → ParsesRecords count area (found (records_in count area).setting (records_in count area).size)
  all-valid t = subst (ParsesRecords count area) (shape-valid (every-area count area) t) (every-area count area)

  pub first-fault : is_taken (records_in count area).answer ≡ false → ParsesRecords count area (refused_as (records_in count area).answer)
  first-fault t = subst (ParsesRecords count area) (shape-fault (every-area count area) t) (every-area count area)

-- one record fewer
pub one_fewer : {n : ℕ} {area : List ℕ} {f : Found} → ParsesRecords (suc n) area f → is_taken f.answer ≡ true → is_taken (records_in n area).answer ≡ true
one_fewer {n} (all_valid rest (next {before = before} {new = new} r i)) t =
    ap (λ (x : Found). is_taken x.answer) (ap (records_in n) (append_assoc before new rest) ∙ records-found r (new ++ rest))
one_fewer (first_fault r h i) t = absurd (true≢false (sym t ∙ fault-is i refl))
