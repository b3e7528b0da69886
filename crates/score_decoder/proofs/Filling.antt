-- Lines put into an area one after the other, wherever they come from. Assumes nothing.
use Prim.Native.Nat.{ℕ, zero, suc, ◌+◌, ◌*◌, ◌<◌, ◌≤◌}
use mathlib.Core.Path.{◌≡◌, refl, sym, ap, ap₂, ◌∙◌}
use mathlib.Core.List.{List, [], ◌∷◌, ◌++◌, append_assoc, append-nil}
use native.Mathlib.Numerals.{add-one}
use native.Mathlib.Omega.{arith}
use lib.ListN.{length, take, drop, length-append}
use lib.Seq.{take_at, drop-drop, drop-append-add}
use Rattle.score_line.specs.declared.Line.{Line}
use Rattle.score_line.specs.LineFormat.{slot_words}
use Rattle.score_line_writer.specs.Writing.{line_slot}
use Rattle.score_decoder.specs.Area.{area_words, laid}
use Rattle.score_decoder.specs.inside.Area.{SlotPut}

-- a slot right behind the words that were laid
laid_more : (words slot old : List ℕ) (n : ℕ) → length words ≡ n → length slot ≡ slot_words → take n (laid words old) ++ (slot ++ drop (n + slot_words) (laid words old)) ≡ laid (words ++ slot) old
unfolding laid
laid_more words slot old n e l =
    let d : drop (n + slot_words) (words ++ drop (length words) old) ≡ drop (length (words ++ slot)) old =
    ap (λ (k : ℕ). drop (k + slot_words) (words ++ drop (length words) old)) (sym e) ∙ drop-append-add words (drop (length words) old) slot_words ∙ drop-drop slot_words (length words) old
    ∙ ap (λ (k : ℕ). drop k old) (ap (λ (k : ℕ). length words + k) (sym l) ∙ sym (length-append words slot)) in
    ap₂ (λ (x y : List ℕ). x ++ (slot ++ y)) (take_at words (drop (length words) old) n e) d ∙ sym (append_assoc words slot (drop (length (words ++ slot)) old))

-- a walk over places: the line at each, and the place past it
module _ {X : Type 0} (line : X → Line) (next : X → X) where
  -- the lines that n steps pass, and the place after them
  abbrev pub passed : ℕ → X → List Line
  passed zero x = []
  passed (suc n) x = line x ∷ passed n (next x)

  abbrev pub after : ℕ → X → X
  after zero x = x
  after (suc n) x = after n (next x)

  after-suc : (n : ℕ) (x : X) → after (suc n) x ≡ next (after n x)
  after-suc zero x = refl
  after-suc (suc n) x = after-suc n (next x)

  words_more : (n : ℕ) (x : X) → area_words (passed (suc n) x) ≡ area_words (passed n x) ++ line_slot (line (after n x))
  unfolding area_words
  words_more zero x = append-nil (line_slot (line x))
  words_more (suc n) x =
      ap (λ (l : List ℕ). line_slot (line x) ++ l) (words_more n (next x))
      ∙ sym (append_assoc (line_slot (line x)) (area_words (passed n (next x))) (line_slot (line (after n (next x)))))

  module _ (n : ℕ) (start : X) (old : List ℕ) where
    -- i lines stand in the area, and x is the place past them
    pub record Filling (new : List ℕ) (x : X) (i : ℕ) : Type 0 where
      pub upto : i ≤ n
      pub same : length new ≡ length old
      pub place : x ≡ after i start
      pub long : length (area_words (passed i start)) ≡ slot_words * i
      pub stands : new ≡ laid (area_words (passed i start)) old

    pub filling-start : Filling old start 0
    unfolding laid area_words
    filling-start = record { upto = omega arith; same = refl; place = refl; long = refl; stands = refl }

    pub filling-more : (new other slot : List ℕ) (x : X) (i : ℕ) {y : X} → Filling new x i → i < n → y ≡ next x → slot ≡ line_slot (line x) → length other ≡ length new → SlotPut new (slot_words * i) slot other
        → Filling other y (i + 1)
    filling-more new other slot x i f l e g k p =
        let w = area_words (passed i start) in
        let slot_is : slot ≡ line_slot (line (after i start)) = g ∙ ap (λ (z : X). line_slot (line z)) f.place in
        let more : area_words (passed (i + 1) start) ≡ w ++ slot = ap (λ (j : ℕ). area_words (passed j start)) (add-one i) ∙ words_more i start ∙ ap (λ (z : List ℕ). w ++ z) (sym slot_is) in
        record {
          upto = omega arith;
          same = k ∙ f.same;
          place = e ∙ ap next f.place ∙ sym (ap (λ (j : ℕ). after j start) (add-one i) ∙ after-suc i start);
          long = ap length more ∙ length-append w slot ∙ omega (arith, f.long, p.long);
          stands =
              p.stands ∙ ap (λ (z : List ℕ). take (slot_words * i) z ++ (slot ++ drop (slot_words * i + slot_words) z)) f.stands ∙ laid_more w slot old (slot_words * i) f.long p.long
              ∙ ap (λ (z : List ℕ). laid z old) (sym more);
        }

    pub filling-end : (new : List ℕ) (x : X) (i : ℕ) → Filling new x i → n ≤ i → new ≡ laid (area_words (passed n start)) old
    filling-end new x i f l = let e : i ≡ n = omega (arith, f.upto) in f.stands ∙ ap (λ (j : ℕ). laid (area_words (passed j start)) old) e
