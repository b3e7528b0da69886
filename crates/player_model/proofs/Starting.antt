-- What step 3 comes to, all due lines together: the first notes fill the places, each of priority then takes the place of the oldest without.
use mathlib.Core.Path.{◌≡◌, refl, sym, ap, ◌∙◌}
use mathlib.Core.Bool.{Bool, true, false, not, ◌&&◌, false≢true}
use mathlib.Core.List.{List, [], ◌∷◌, ◌++◌, append_assoc, append-nil}
use mathlib.Core.Logic.{by_cases}
use Prim.Native.Nat.{ℕ, zero, suc, ◌+◌, ◌-◌, ◌≤◌, ◌<◌}
use native.Mathlib.Omega.{arith}
use native.Mathlib.Decide.{dec_lt}
use lib.ListN.{length, take, length-append}
use lib.Seq.{take-nil, drop-nil}
use Rattle.score_line.specs.declared.Event.{Event}
use Rattle.score_line.specs.declared.Event.TheVariants.{Instr, Control, End, Tempo}
use Rattle.score_line.specs.declared.Line.{Line}
use Rattle.player_model.specs.Lists.{filter, fold}
use Rattle.player_model.specs.Cycle.{Voices, Note, Started, can_cut, cut_oldest, joined_by, born, started_by, started}
use Rattle.player_model.specs.Results.{born_by, births, HasPriority, cut_first, filled, come_then, replaced, NotesStart}
use Rattle.player_model.proofs.Lists.{by-test, cond-true, filter-append}
use Rattle.player_model.proofs.Results.{join-room, join-cut, join-miss}

module _ {S : Type 0} (v : Voices S) where
  -- ---- notes left out, from the oldest on

  abbrev without : List (Note S) → ℕ
  without ns = length (filter (λ (n : Note S). not n.priority) ns)

  -- a note of priority is not left out
  cut_keeps : (k : ℕ) (n : Note S) (ns : List (Note S)) → HasPriority v n → cut_first v k (n ∷ ns) ≡ n ∷ cut_first v k ns
  unfolding cut_first
  cut_keeps zero n ns h = refl
  cut_keeps (suc k) n ns h = cond-true _ _ h

  -- the oldest first, then the others
  cut-more : (k : ℕ) (ns : List (Note S)) → cut_first v (suc k) ns ≡ cut_first v k (cut_oldest ns)
  unfolding cut_first cut_oldest
  cut-more zero [] = refl
  cut-more (suc k) [] = refl
  cut-more k (n ∷ ns) = by-test n.priority (λ e. cc (cut_keeps k n (cut_oldest ns) e, cut-more k ns)) (λ e. cc)

  -- a note of priority at the end stays there
  cut-end : (k : ℕ) (ns : List (Note S)) (n : Note S) → HasPriority v n → cut_first v k (ns ++ (n ∷ [])) ≡ cut_first v k ns ++ (n ∷ [])
  unfolding cut_first
  cut-end zero ns n h = refl
  cut-end (suc k) [] n h = cond-true _ _ h
  cut-end (suc k) (m ∷ ms) n h = by-test m.priority (λ e. cc (cut-end (suc k) ms n h)) (λ e. cc (cut-end k ms n h))

  -- with none to cut off, none is left out
  cut-nothing : (k : ℕ) (ns : List (Note S)) → can_cut ns ≡ false → cut_first v k ns ≡ ns
  unfolding can_cut cut_first
  cut-nothing zero ns h = refl
  cut-nothing (suc k) [] h = refl
  cut-nothing (suc k) (n ∷ ns) h = by-test n.priority (λ e. cc (cut-nothing (suc k) ns (cc))) (λ e. cc)

  none-without : (ns : List (Note S)) → can_cut ns ≡ false → without ns ≡ 0
  unfolding can_cut filter
  none-without [] h = refl
  none-without (n ∷ ns) h = by-test n.priority (λ e. cc (none-without ns (cc))) (λ e. cc)

  -- one fewer that has no priority
  one_fewer : (ns : List (Note S)) → can_cut ns ≡ true → without ns ≡ suc (without (cut_oldest ns))
  unfolding can_cut cut_oldest filter
  one_fewer [] h = absurd (false≢true h)
  one_fewer (n ∷ ns) h = by-test n.priority (λ e. rw e (one_fewer ns (cc))) (λ e. rw e)

  one-shorter : (ns : List (Note S)) → can_cut ns ≡ true → length ns ≡ length (cut_oldest ns) + 1
  unfolding can_cut cut_oldest
  one-shorter [] h = absurd (false≢true h)
  one-shorter (n ∷ ns) h = by-test n.priority (λ e. rw e (omega (arith, one-shorter ns (cc)))) (λ e. rw e (omega arith))

  without_end : (ns : List (Note S)) (n : Note S) → HasPriority v n → without (ns ++ (n ∷ [])) ≡ without ns
  unfolding filter
  without_end ns n h = rw (filter-append (λ (x : Note S). not x.priority) ns (n ∷ []), h, append-nil)

  -- a note of priority that is first of those to come, with one to cut off and with none
  replaced-one : (ns rest : List (Note S)) (n : Note S) → HasPriority v n → can_cut ns ≡ true
      → replaced v (cut_oldest ns ++ (n ∷ [])) rest ≡ replaced v ns (n ∷ rest)
  replaced-one ns rest n h c =
      cc (
        cut-end (length rest) (cut_oldest ns) n h,
        without_end (cut_oldest ns) n h,
        cut-more (length rest) ns,
        one_fewer ns c,
        append_assoc (cut_first v (length rest) (cut_oldest ns)) (n ∷ []) (take (without (cut_oldest ns)) rest),
      )

  replaced-none : (ns rest : List (Note S)) (n : Note S) → can_cut ns ≡ false → replaced v ns rest ≡ replaced v ns (n ∷ rest)
  replaced-none ns rest n c = cc (cut-nothing (length rest) ns c, cut-nothing (suc (length rest)) ns c, none-without ns c)

module _ {S : Type 0} (v : Voices S) (most position : ℕ) where
  starting : Started S → List Line → Started S
  starting s ls = fold (λ (s : Started S) (l : Line). started_by v most position l s l.event) s ls

  record Starts (ns : List (Note S)) (k : ℕ) (born : List (Note S)) (s : Started S) : Type 0 where
    notes : s.notes ≡ replaced v (filled v most ns born) (come_then v most ns born)
    missed : s.missed ≡ k + (length born - (most - length ns))

  starts-room : (ns : List (Note S)) (k : ℕ) (n : Note S) (rest : List (Note S)) (s : Started S) → length ns < most
      → Starts (ns ++ (n ∷ [])) k rest s → Starts ns k (n ∷ rest) s
  starts-room ns k n rest s h r =
      let e : length (ns ++ (n ∷ [])) ≡ length ns + 1 = length-append ns (n ∷ []) in
      let d : most - length ns ≡ suc (most - length (ns ++ (n ∷ []))) = omega arith in
      record { notes = rw d (rw append_assoc at r.notes); missed = r.missed ∙ omega arith }

  -- with every place taken
  full_is : (ns : List (Note S)) → most ≤ length ns → (born : List (Note S))
      → replaced v (filled v most ns born) (come_then v most ns born) ≡ replaced v ns (filter (λ (x : Note S). x.priority) born)
  full_is ns h born = let e : most - length ns ≡ 0 = omega arith in rw (e, append-nil)

  starts-full : (ns ms : List (Note S)) (k : ℕ) (n : Note S) (rest : List (Note S)) (s : Started S) → most ≤ length ns → length ms ≡ length ns
      → replaced v ms (filter (λ (x : Note S). x.priority) rest) ≡ replaced v ns (filter (λ (x : Note S). x.priority) (n ∷ rest))
      → Starts ms (k + 1) rest s → Starts ns k (n ∷ rest) s
  starts-full ns ms k n rest s h l e r =
      record { notes = r.notes ∙ full_is ms (omega arith) rest ∙ e ∙ sym (full_is ns h (n ∷ rest)); missed = r.missed ∙ omega arith }

  Rest : List Line → Type 0
  Rest ls = (ns : List (Note S)) (k : ℕ) → Starts ns k (births v position ls) (starting (record { notes = ns; missed = k }) ls)

  -- one note more, before those of the other lines
  module _ (ls : List Line) (r : Rest ls) (ns : List (Note S)) (k : ℕ) (n : Note S) where
    abbrev now : Started S
    now = record { notes = ns; missed = k }

    abbrev coming : List (Note S)
    coming = filter (λ (x : Note S). x.priority) (births v position ls)

    starts-missed : most ≤ length ns → (n.priority && can_cut ns) ≡ false
        → replaced v ns coming ≡ replaced v ns (filter (λ (x : Note S). x.priority) (n ∷ births v position ls))
        → Starts ns k (n ∷ births v position ls) (starting (joined_by most now n) ls)
    unfolding Rest
    starts-missed h c e = rw (join-miss most now n h c) (starts-full ns ns k n (births v position ls) _ h refl e (r ns (k + 1)))

    starts-one : Starts ns k (n ∷ births v position ls) (starting (joined_by most now n) ls)
    unfolding Rest filter
    starts-one =
        by_cases (dec_lt (length ns) most)
        (λ h. rw (join-room most now n h) (starts-room ns k n (births v position ls) _ h (r (ns ++ (n ∷ [])) k)))
        (λ h. by-test n.priority (λ p. by-test (can_cut ns)
        (λ c. rw (join-cut most now n (omega arith) p c)
        (starts-full ns (cut_oldest ns ++ (n ∷ [])) k n (births v position ls) _ (omega arith) (length-append (cut_oldest ns) (n ∷ []) ∙ sym (one-shorter v ns c))
        (cc (replaced-one v ns coming n p c)) (r (cut_oldest ns ++ (n ∷ [])) (k + 1))))
        (λ c. starts-missed (omega arith) (λ i. p i && c i) (cc (replaced-none v ns coming n c))))
        (λ p. starts-missed (omega arith) (ap (λ (b : Bool). b && can_cut ns) p) (cc)))

  starts : (ls : List Line) → Rest ls
  unfolding Rest starting fold births filter cut_first
  starts [] = λ ns k. record {
    notes = rw (take-nil, drop-nil, append-nil, take-nil, append-nil);
    missed = omega arith;
  }
  starts (l ∷ ls) = λ ns k. go l.event (starts ls) ns k
    where
      go : (x : Event) → Rest ls → (ns : List (Note S)) (k : ℕ)
          → Starts ns k (born_by v position l x ++ births v position ls) (starting (started_by v most position l (record { notes = ns; missed = k }) x) ls)
      go (Instr label i d) r ns k = starts-one ls r ns k (born v position l label i d)
      go (Control label x value) r ns k = r ns k
      go End r ns k = r ns k
      go (Tempo t) r ns k = r ns k

pub notes-start : {S : Type 0} (v : Voices S) → NotesStart v
unfolding NotesStart started starting Rest
notes-start v most position before due = let s = starts v most position due before 0 in record { notes = s.notes; missed = s.missed ∙ omega arith }
