-- The steps of a cycle come to what document 01 says.
use mathlib.Core.Path.{◌≡◌, refl, sym, ap, ◌∙◌, subst}
use mathlib.Core.Bool.{Bool, true, false, ◌&&◌, ◌||◌, cond, or-true, true≢false}
pub use mathlib.Core.Bool.{and-false}
use mathlib.Core.Logic.{⊎_elim}
use mathlib.Core.List.{List, [], ◌∷◌, ◌++◌, zip_with}
use Prim.Native.Nat.{ℕ, ◌+◌, ◌-◌, ◌≤◌, ◌<◌}
use native.Mathlib.Omega.{arith}
use lib.ListN.{length, replicate, length-replicate}
use lib.Dec.{ltb, eqb}
use lib.Ieee.{Float, binary32, add, eq, of_bits}
use borrow.Author.Tests.{lt-ltb, le-ltb, ltb-false}
use Rattle.std.specs.Option.{option_map_or}
use Rattle.base_timebase.specs.Time.{ticks_in, endless as without_end}
use Rattle.score_line.specs.declared.Event.{Event}
use Rattle.score_line.specs.declared.Event.TheVariants.{Instr, Control, End, Tempo}
use Rattle.score_line.specs.declared.Line.{Line}
use Rattle.std.specs.Prelude.{Some, None}
use Rattle.player_model.specs.Lists.{fold, each, All, here, later}
use Rattle.player_model.specs.Lists as lists
use Rattle.player_model.specs.Cycle.{Voices, Note, Started, Rendered, with_state, is_end, any_end, tempo_from, last_tempo, samples, can_cut, cut_oldest, joined_by, born, controlled_by, control_event, controlled, pressed, run_from, run_all, goes_on}
use Rattle.player_model.specs.Results.{EndFound, NoTempo, LastSets, HasPriority, NoPriority, NotesJoin, PriorityKept, controlled_state, controlled_all, ControlsSet, NotesEnd, with_outputs, Adding, outputs_of_notes, SamplesSum}
use Rattle.player_model.proofs.Lists.{cond-true, cond-false, fold-append, each_same}

-- ---- steps 1 and 2

found : Bool → List Line → Bool
found b ls = fold (λ (f : Bool) (l : Line). f || is_end l.event) b ls

found-stays : (ls : List Line) → found true ls ≡ true
unfolding found fold
found-stays [] = refl
found-stays (l ∷ ls) = found-stays ls

end-forth : (ls : List Line) → found false ls ≡ true → lists.Some (λ (l : Line). l.event ≡ End) ls
unfolding found fold
end-forth [] h = absurd (true≢false (sym h))
end-forth (l ∷ ls) h = go l.event refl h (end-forth ls)
  where
    go : (x : Event) → l.event ≡ x → found (is_end x) ls ≡ true → (found false ls ≡ true → lists.Some (λ (l : Line). l.event ≡ End) ls)
        → lists.Some (λ (l : Line). l.event ≡ End) (l ∷ ls)
    go (Instr label i d) e k r = later (r k)
    go (Control label x value) e k r = later (r k)
    go End e k r = here e
    go (Tempo t) e k r = later (r k)

end_back : {ls : List Line} (b : Bool) → lists.Some (λ (l : Line). l.event ≡ End) ls → found b ls ≡ true
unfolding found fold
end_back b (here {x} {xs} e) = cc (or-true b, found-stays xs)
end_back b (later {x} {xs} s) = end_back (b || is_end x.event) s

pub end-found : EndFound
unfolding EndFound any_end found
end-found due = (end-forth due, end_back false)

tempo-stays : (tempo : Float) (due : List Line) → All (λ (m : Line). NoTempo m.event) due → last_tempo tempo due ≡ tempo
unfolding last_tempo fold
tempo-stays tempo [] h = refl
tempo-stays tempo (l ∷ ls) h = ap (λ (t : Float). last_tempo t ls) (go l.event h.0) ∙ tempo-stays tempo ls h.1
  where
    go : (x : Event) → NoTempo x → tempo_from tempo x ≡ tempo
    go (Instr label i d) n = refl
    go (Control label x value) n = refl
    go End n = refl
    go (Tempo t) n = absurd n

pub last-sets : LastSets
last-sets =
    record {
      last = λ tempo t before l behind e h.
          unfold last_tempo fold in
          (fold-append (λ (old : Float) (m : Line). tempo_from old m.event) tempo before (l ∷ behind)
          ∙ ap (λ (x : Event). last_tempo (tempo_from (last_tempo tempo before) x) behind) e
          ∙ tempo-stays t behind h);
      none = tempo-stays;
    }

-- ---- step 3

-- one more note, by the three ways

module _ {S : Type 0} (most : ℕ) (s : Started S) (n : Note S) where
  pub join-room : length s.notes < most → joined_by most s n ≡ record { notes = s.notes ++ (n ∷ []); missed = s.missed }
  unfolding joined_by
  join-room h = cond-true _ _ (lt-ltb (length s.notes) most h)

  pub join-cut : most ≤ length s.notes → n.priority ≡ true → can_cut s.notes ≡ true
      → joined_by most s n ≡ record { notes = cut_oldest s.notes ++ (n ∷ []); missed = s.missed + 1 }
  unfolding joined_by
  join-cut h p c = cond-false _ _ (le-ltb (length s.notes) most h) ∙ cond-true _ _ (λ i. p i && c i)

  pub join-miss : most ≤ length s.notes → (n.priority && can_cut s.notes) ≡ false → joined_by most s n ≡ record { notes = s.notes; missed = s.missed + 1 }
  unfolding joined_by
  join-miss h c = cond-false _ _ (le-ltb (length s.notes) most h) ∙ cond-false _ _ c

module _ {S : Type 0} (v : Voices S) where
  cut-here : (before : List (Note S)) (n : Note S) (behind : List (Note S)) → All (HasPriority v) before → NoPriority v n
      → (can_cut (before ++ (n ∷ behind)) ≡ true) × (cut_oldest (before ++ (n ∷ behind)) ≡ before ++ behind)
  unfolding can_cut cut_oldest
  cut-here [] n behind h e = (cond-false _ _ e, cond-false _ _ e)
  cut-here (m ∷ ms) n behind h e =
      let r = cut-here ms n behind h.1 e in (cc (h.0, r.0), cc (h.0, r.1))

  cut-none : (ns : List (Note S)) → All (HasPriority v) ns → can_cut ns ≡ false
  unfolding can_cut
  cut-none [] h = refl
  cut-none (n ∷ ns) h = cond-true _ _ h.0 ∙ cut-none ns h.1

  pub notes-join : NotesJoin v
  unfolding NotesJoin
  notes-join most s n =
      record {
        room = join-room most s n;
        cut_off = λ before oldest behind h p e a o.
            let r = cut-here before oldest behind a o in
            join-cut most s n h p (ap can_cut e ∙ r.0)
            ∙ ap (λ (l : List (Note S)). record { notes = l ++ (n ∷ []); missed = s.missed + 1 }) (ap cut_oldest e ∙ r.1);
        missed = λ h. ⊎_elim (λ p. join-miss most s n h (ap (λ (b : Bool). b && can_cut s.notes) p))
            (λ a. join-miss most s n h (ap (λ (b : Bool). n.priority && b) (cut-none s.notes a) ∙ and-false n.priority));
      }

  pub priority-kept : PriorityKept v
  priority-kept =
      record { line = λ position l label i duration. unfold born in refl; key = λ chosen m. unfold pressed in refl; stays = λ n s. refl; marked = λ n. refl }

-- ---- steps 4 and 7

each-id : {A : Type 0} (xs : List A) → each (λ (x : A). x) xs ≡ xs
unfolding each
each-id [] = refl
each-id {A} (x ∷ xs) = ap (λ (l : List A). x ∷ l) (each-id xs)

each_both : {A : Type 0} (f g h : A → A) → ((x : A) → g (f x) ≡ h x) → (xs : List A) → each g (each f xs) ≡ each h xs
unfolding each
each_both f g h e [] = refl
each_both {A} f g h e (x ∷ xs) = λ i. e x i ∷ each_both f g h e xs i

module _ {S : Type 0} (v : Voices S) where
  one_more : (l : Line) (ls : List Line) (label x : ℕ) (value : Float) → l.event ≡ Control label x value → (n : Note S)
      → controlled_all v ls (controlled_by v label x value n) ≡ controlled_all v (l ∷ ls) n
  unfolding fold controlled_by
  one_more l ls label x value e n =
      go (option_map_or (eqb label) n.label false)
      ∙ ap (λ (y : Event). with_state n (after (controlled_state v n.label n.state y))) (sym e)
    where
      after : S → S
      after s = fold (λ (s : S) (l : Line). controlled_state v n.label s l.event) s ls

      go : (b : Bool) → controlled_all v ls (cond b (with_state n (v.control x value n.state)) n)
          ≡ with_state n (after (cond b (v.control x value n.state) n.state))
      go true = refl
      go false = refl

  passed-by : (l : Line) (ls : List Line) (y : Event) → l.event ≡ y → ((n : Note S) → controlled_state v n.label n.state y ≡ n.state)
      → (n : Note S) → controlled_all v ls n ≡ controlled_all v (l ∷ ls) n
  unfolding fold
  passed-by l ls y e h n =
      ap (λ (s : S). with_state n (fold (λ (s : S) (l : Line). controlled_state v n.label s l.event) s ls))
      (sym (ap (controlled_state v n.label n.state) e ∙ h n))

  controls : (due : List Line) (notes : List (Note S)) → controlled v notes due ≡ each (controlled_all v due) notes
  unfolding controlled fold each
  controls [] notes = sym (each-id notes)
  controls (l ∷ ls) notes = go l.event refl (controls ls)
    where
      go : (y : Event) → l.event ≡ y → ((ns : List (Note S)) → controlled v ns ls ≡ each (controlled_all v ls) ns)
          → controlled v (control_event v notes y) ls ≡ each (controlled_all v (l ∷ ls)) notes
      go (Instr label i d) e r = r notes ∙ each_same _ _ (passed-by l ls (Instr label i d) e (λ n. refl)) notes
      go (Control label x value) e r =
          r (each (controlled_by v label x value) notes)
          ∙ each_both (controlled_by v label x value) (controlled_all v ls) (controlled_all v (l ∷ ls)) (one_more l ls label x value e) notes
      go End e r = r notes ∙ each_same _ _ (passed-by l ls End e (λ n. refl)) notes
      go (Tempo t) e r = r notes ∙ each_same _ _ (passed-by l ls (Tempo t) e (λ n. refl)) notes

  pub controls-set : ControlsSet v
  unfolding ControlsSet
  controls-set notes due = controls due notes

  pub notes-end : NotesEnd v
  unfolding NotesEnd goes_on born
  notes-end birth position l label i d s =
      (forth (eq d without_end), back (eq d without_end))
    where
      e : ℕ
      e = birth + ticks_in d

      forth : (b : Bool) → option_map_or (ltb position) (cond b None (Some e)) true ≡ false → (b ≡ false) × (e ≤ position)
      forth true h = absurd (true≢false h)
      forth false h = (refl, ltb-false position e h)

      back : (b : Bool) → (b ≡ false) × (e ≤ position) → option_map_or (ltb position) (cond b None (Some e)) true ≡ false
      back true h = h.0
      back false h = le-ltb position e h.1

-- ---- step 5

added_twice : (mix : List Float) (xss yss : List (List Float))
    → zip_with with_outputs (zip_with with_outputs mix xss) yss ≡ zip_with with_outputs mix (zip_with (λ (first rest : List Float). first ++ rest) xss yss)
unfolding zip_with
added_twice [] xss yss = refl
added_twice (x ∷ mix) [] yss = refl
added_twice (x ∷ mix) (xs ∷ xss) [] = refl
added_twice (x ∷ mix) (xs ∷ xss) (ys ∷ yss) =
    λ i. sym (fold-append (add binary32) x xs ys) i ∷ added_twice mix xss yss i

none-added : (mix : List Float) → zip_with with_outputs mix (replicate (length mix) []) ≡ mix
unfolding zip_with fold
none-added [] = refl
none-added (x ∷ mix) = ap (λ (l : List Float). x ∷ l) (none-added mix)

from-silence : (x : Float) (xss : List (List Float)) → zip_with with_outputs (replicate (length xss) x) xss ≡ each (with_outputs x) xss
unfolding zip_with each
from-silence x [] = refl
from-silence x (xs ∷ xss) = ap (λ (l : List Float). with_outputs x xs ∷ l) (from-silence x xss)

length-zip : {A B C : Type 0} (f : A → B → C) (xs : List A) (ys : List B) (n : ℕ) → length xs ≡ n → length ys ≡ n → length (zip_with f xs ys) ≡ n
unfolding zip_with
length-zip f [] ys n h k = h
length-zip f (x ∷ xs) [] n h k = k
length-zip f (x ∷ xs) (y ∷ ys) n h k = omega (arith, length-zip f xs ys (length xs) refl (omega arith))

module _ {S : Type 0} (v : Voices S) (next : ℕ → S → S) (outputs : ℕ → S → List (List Float)) (a : Adding v next outputs) (n : ℕ) where
  length-heard : (ns : List (Note S)) → length (outputs_of_notes v next outputs n ns) ≡ n
  unfolding outputs_of_notes
  length-heard [] = length-replicate n []
  length-heard (x ∷ ns) = length-zip _ (outputs n x.state) (outputs_of_notes v next outputs n ns) n (a.every n x.state) (length-heard ns)

  record Runs (mix : List Float) (ns : List (Note S)) (b : Rendered S) : Type 0 where
    sums : b.mix ≡ zip_with with_outputs mix (outputs_of_notes v next outputs n ns)
    states : b.notes ≡ each (λ (x : Note S). with_state x (next n x.state)) ns

  runs : (ns : List (Note S)) (mix : List Float) → length mix ≡ n → Runs mix ns (run_from v ns mix)
  unfolding run_from outputs_of_notes each
  runs [] mix h = record { sums = cc (none-added mix); states = refl }
  runs (x ∷ ns) mix h =
      let m : (v.run x.state mix).mix ≡ zip_with with_outputs mix (outputs n x.state) =
      a.mix x.state mix ∙ ap (λ (k : ℕ). zip_with with_outputs mix (outputs k x.state)) h in
      let r = runs ns (v.run x.state mix).mix (ap length m ∙ length-zip with_outputs mix (outputs n x.state) n h (a.every n x.state)) in
      record {
        sums = cc (r.sums, m, added_twice mix (outputs n x.state) (outputs_of_notes v next outputs n ns));
        states = λ i. with_state x ((a.state x.state mix ∙ ap (λ (k : ℕ). next k x.state) h) i) ∷ r.states i;
      }

pub samples-sum : {S : Type 0} (v : Voices S) (next : ℕ → S → S) (outputs : ℕ → S → List (List Float)) → SamplesSum v next outputs
unfolding SamplesSum run_all
samples-sum v next outputs a ns =
    let z = of_bits binary32 0 in
    let r = runs v next outputs a samples ns (replicate samples z) (length-replicate samples z) in
    let all = outputs_of_notes v next outputs samples ns in
    let m = subst (λ (n : ℕ). zip_with with_outputs (replicate n z) all ≡ each (with_outputs z) all) (length-heard v next outputs a samples ns) (from-silence z all) in
    record { mix = r.sums ∙ m; notes = r.states }
