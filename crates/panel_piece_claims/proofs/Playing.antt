-- What the feeder's code hands over are the lines that are due, and so a piece that it feeds plays as a whole.
use mathlib.Core.Path.{◌≡◌, refl, sym, ap, ◌∙◌, subst, subst⁻¹}
use mathlib.Core.Bool.{Bool, true, false, not, cond, true≢false, false≢true}
use mathlib.Core.List.{List, [], ◌∷◌, ◌++◌, append_assoc}
use Prim.Native.Nat.{ℕ, zero, suc, ◌+◌, ◌/◌, ◌≤◌, ◌<◌}
use native.Mathlib.Omega.{arith}
use lib.IntN.{ℤ}
use lib.ListN.{length, drop, get_or, length-append}
use lib.Seq.{drop-drop}
use lib.Dec.{leb, eqb}
use borrow.Author.Tests.{lt-leb, leb-false, eq-eqb}
use Rattle.base_answer.specs.Numbers.{number_of, is_taken}
use Rattle.base_answer.specs.declared.Answer.TheVariants.{Taken}
use Rattle.score_line.specs.declared.When.{When}
use Rattle.score_line.specs.declared.When.TheVariants.{Timed, Untimed}
use Rattle.score_line.specs.declared.Line.{Line}
use Rattle.score_line_writer.specs.Writing.{line_words}
use Rattle.settings_records.specs.declared.InUse.{InUse}
use Rattle.orchestra_syntax.specs.Tree.{Instrument}
use Rattle.voices_resolved.specs.Tree.{tree_voices}
use Rattle.voices_compiled.specs.Voices.{VoiceState}
use Rattle.player_model.specs.Lists.{filter, each, All}
use Rattle.player_model.specs.Cycle.{due_when, is_due, samples}
use Rattle.player_model.specs.PlayerState.{Settings, PlayerState, behind, due_at, later_than, due_of}
use Rattle.player_order.proofs.Order.{length-ordered}
use Rattle.player_model.specs.Calls.{keypad, Answer, cycle, numbered, Last, none, Transition, cycles_with, last_with, after_all, transition_of, trace_from}
use Rattle.player_model.specs.Condition3.{timed, AsPlain}
use Rattle.player_model.specs.Set.{in_force}
use Rattle.player_model.specs.History.{Reached, History}
use Rattle.player_model.proofs.Lists.{by-test, cond-true, cond-false, all_map, all_filter, all_append, filter_none, filter-all}
use Rattle.player_model.proofs.BySettings.{Agree, agree-here, agree_after, next_set}
use Rattle.panel.specs.State.{player_state_of, with_core}
use Rattle.panel.specs.Calls.{submit_of}
use Rattle.panel.specs.declared.Panel.{Panel}
use Rattle.base_sorting.specs.Sorted.{AllFrom, Rising}
use Rattle.base_sorting.proofs.Merging.{rising-drop}
use Rattle.panel_claims.specs.Verdict.{Fits, AllFit, too_late, most_lines, with_lines}
use Rattle.panel_claims.specs.Fresh.{Setup}
use Rattle.panel_claims.specs.Claims.{after_of, core_after, panel, Given}
use Rattle.panel_claims.proofs.Past.{own}
use Rattle.panel_feeder.specs.Order.{ticks_in_rank, number_in, ticks_at, line_in}
use Rattle.panel_feeder.specs.Feeding.{Feeds, PanelHanded, handed_of, fed_from, fed_of}
use Rattle.panel_piece_claims.specs.Playing.{Round, Seen, PlayedTo, performance, played_to, calls_in, FewDue}
use Rattle.panel_piece_claims.proofs.Ordering.{line_of, Rank, rank-line, rank-ticks}
use Rattle.panel_piece_claims.proofs.Feeding.{Valid, handing, offered, kept_back, start, K, plain, Stand, zero-answered, eight-answered, one_more, hand-kept, fit_on, handed-all, AllSet, all_set, offered-all, runs-all, all-fits, kept-all-of, next-kept, is-numbered, set_next, cycle-good, next-stand}

-- ---- which ranks are due

-- a rank that tells whether its line is due
abbrev Tells : List ℕ → ℕ → ℕ → Type 0
Tells area position k = is_due position (line_of area k) ≡ leb (ticks_in_rank k) position

module _ (area : List ℕ) (position : ℕ) where
  when-due : (l : Line) → timed l.when → is_due position l ≡ leb (ticks_at l.when) position
  unfolding is_due
  when-due l h = go l.when h
    where
      go : (w : When) → timed w → due_when position w ≡ leb (ticks_at w) position
      go (Timed late t) h = refl
      go Untimed h = absurd h

  pub tells : (k : ℕ) → Rank area 0 k → timed (line_of area k).when → Tells area position k
  tells k u h =
      let e : line_of area k ≡ line_in area u.number = ap (line_of area) u.is ∙ rank-line area u.number u.below in
      when-due (line_of area k) h ∙ ap (λ (l : Line). leb (ticks_at l.when) position) e ∙ ap (λ (n : ℕ). leb n position) (sym (ap ticks_in_rank u.is ∙ rank-ticks area u.number u.below))

  -- behind a rank that is not due none is
  none-behind : (k : ℕ) (ks : List ℕ) → AllFrom k ks → leb (ticks_in_rank k) position ≡ false → All (Tells area position) ks → All (λ (l : Line). is_due position l ≡ false) (each (line_of area) ks)
  unfolding each
  none-behind k [] a e t = tt
  none-behind k (x ∷ xs) a e t =
      let h : position < ticks_in_rank k = leb-false (ticks_in_rank k) position e in
      (t.0 ∙ lt-leb (ticks_in_rank x) position (later a.0 h), none-behind k xs a.1 e t.1)
    where
      later : k ≤ x → position < ticks_in_rank k → position < ticks_in_rank x
      later a h = omega arith

  -- the ranks that are left
  pub later-ranks : (ks : List ℕ) → Rising ks → All (Tells area position) ks
      → each (line_of area) (drop (length (filter (is_due position) (each (line_of area) ks))) ks) ≡ later_than position (each (line_of area) ks)
  unfolding each filter later_than
  later-ranks [] r t = refl
  later-ranks (k ∷ ks) r t =
      by-test (leb (ticks_in_rank k) position)
      (λ e. rw (t.0 ∙ e) (later-ranks ks r.1 t.1))
      (λ e. let n = none-behind k ks r.0 e t.1 in
      rw (t.0 ∙ e, filter_none (is_due position) (each (line_of area) ks) n)
      (ap (λ (ls : List Line). line_of area k ∷ ls) (sym (filter-all (λ (l : Line). not (is_due position l)) (each (line_of area) ks) (all_map _ _ (λ l u. ap not u) (each (line_of area) ks) n)))))

-- ---- what is handed over

still-runs : (h k : History VoiceState) (ls : List Line) → k ≡ with_lines h ls → k.holds.plays.ended ≡ h.holds.plays.ended
unfolding behind
still-runs h k ls e = ap (λ (x : History VoiceState). x.holds.plays.ended) e

wait-behind : (h k : History VoiceState) (ls : List Line) → k ≡ with_lines h ls → length k.holds.waits ≡ length (h.holds.waits ++ ls)
unfolding behind
wait-behind h k ls e = ap (λ (x : History VoiceState). length x.holds.waits) e

first_number : List Answer → ℕ
first_number [] = 0
first_number (a ∷ given) = a.number

module _ (u : Setup) (is : List Instrument) (g : Given u is) where
  module _ (area : List ℕ) (position : ℕ) where
    abbrev due : List ℕ → List Line
    due ks = filter (is_due position) (each (line_of area) ks)

    -- one line that is due
    handed-due : (p : Panel) (k : ℕ) → K u is g p → (ok : Valid is (line_of area k)) → (player_state_of p).plays.ended ≡ false
        → AllFit is keypad (own p).reached (length (own p).holds.waits) (line_of area k ∷ []) → leb (ticks_in_rank k) position ≡ true
        → handed_of area position k p ≡ record { panel = (after_of p (handing (line_of area k))).player; answer = (submit_of p.core keypad (line_words (line_of area k))).answer; more = true }
    unfolding handed_of after_of core_after submit_of first_number
    handed-due p k kept ok runs fit e =
        let z : number_of (submit_of p.core keypad (line_words (line_of area k))).answer ≡ 0 =
        ap first_number (zero-answered u is g 0 none p kept (line_of area k) ok runs fit.0) in
        cond-true _ _ e ∙ (λ i. record { panel = with_core p (submit_of p.core keypad (line_words (line_of area k))).left; answer = (submit_of p.core keypad (line_words (line_of area k))).answer; more = eqb (z i) 0 })

    feed-hands : (ks : List ℕ) (at : ℕ) (p : Panel) → Rising ks → All (Tells area position) ks → K u is g p → All (Valid is) (due ks)
        → All (λ (l : Line). (player_state_of p).plays.ended ≡ false) (due ks) → AllFit is keypad (own p).reached (length (own p).holds.waits) (due ks)
        → fed_from area position p at ks ≡ record { player = after_all panel p (each handing (due ks)); answer = Taken; line = 0; at = at + length (due ks) }
    unfolding fed_from each filter after_all
    feed-hands [] at p r t kept ok runs fit = let e : at ≡ at + 0 = omega arith in λ i. record { player = p; answer = Taken; line = 0; at = e i }
    feed-hands (k ∷ ks) at p r t kept ok runs fit =
        by-test (leb (ticks_in_rank k) position)
        (λ e. let d : due (k ∷ ks) ≡ line_of area k ∷ due ks = cond-true _ _ (t.0 ∙ e) in
        taken-on (λ q kq okq rq fq. feed-hands ks (at + 1) q r.1 t.1 kq okq rq fq) e d (subst (All (Valid is)) d ok) (subst (All (λ (l : Line). (player_state_of p).plays.ended ≡ false)) d runs)
        (subst (AllFit is keypad (own p).reached (length (own p).holds.waits)) d fit))
        (λ e. let d : due (k ∷ ks) ≡ [] = cond-false _ _ (t.0 ∙ e) ∙ filter_none (is_due position) (each (line_of area) ks) (none-behind area position k ks r.0 e t.1) in
        stays e d)
      where
        stays : leb (ticks_in_rank k) position ≡ false → due (k ∷ ks) ≡ []
            → fed_from area position p at (k ∷ ks) ≡ record { player = after_all panel p (each handing (due (k ∷ ks))); answer = Taken; line = 0; at = at + length (due (k ∷ ks)) }
        stays e d =
            let h : handed_of area position k p ≡ record { panel = p; answer = Taken; more = false } = unfold handed_of in cond-false _ _ e in
            let z : at ≡ at + 0 = omega arith in
            ap (λ (x : PanelHanded). cond x.more (fed_from area position x.panel (at + 1) ks) (record { player = x.panel; answer = x.answer; line = cond (is_taken x.answer) 0 (number_in k); at = at })) h
            ∙ (λ i. record { player = p; answer = Taken; line = 0; at = z i })
            ∙ ap (λ (ls : List Line). record { player = after_all panel p (each handing ls); answer = Taken; line = 0; at = at + length ls }) (sym d)

        taken-on : ((q : Panel) → K u is g q → All (Valid is) (due ks) → All (λ (l : Line). (player_state_of q).plays.ended ≡ false) (due ks) → AllFit is keypad (own q).reached (length (own q).holds.waits) (due ks)
            → fed_from area position q (at + 1) ks ≡ record { player = after_all panel q (each handing (due ks)); answer = Taken; line = 0; at = at + 1 + length (due ks) })
            → leb (ticks_in_rank k) position ≡ true → due (k ∷ ks) ≡ line_of area k ∷ due ks → All (Valid is) (line_of area k ∷ due ks)
            → All (λ (l : Line). (player_state_of p).plays.ended ≡ false) (line_of area k ∷ due ks) → AllFit is keypad (own p).reached (length (own p).holds.waits) (line_of area k ∷ due ks)
            → fed_from area position p at (k ∷ ks) ≡ record { player = after_all panel p (each handing (due (k ∷ ks))); answer = Taken; line = 0; at = at + length (due (k ∷ ks)) }
        taken-on rec e d ok runs fit =
            let l = line_of area k in
            let q = (after_of p (handing l)).player in
            let o = one_more u is g 0 none p kept l ok.0 runs.0 fit.0 in
            let ended : (player_state_of q).plays.ended ≡ (player_state_of p).plays.ended = unfold behind in ap (λ (h : History VoiceState). h.holds.plays.ended) o in
            let z : at + 1 + length (due ks) ≡ at + suc (length (due ks)) = omega arith in
            ap (λ (x : PanelHanded). cond x.more (fed_from area position x.panel (at + 1) ks) (record { player = x.panel; answer = x.answer; line = cond (is_taken x.answer) 0 (number_in k); at = at }))
            (handed-due p k kept ok.0 runs.0 (fit.0, tt) e)
            ∙ rec q (hand-kept u is g 0 none p kept l ok.0 runs.0 fit.0) ok.1 (all_map _ _ (λ x u. ended ∙ u) (due ks) runs.1)
            (fit_on u is g p (own q) l (due ks) o fit.1)
            ∙ (λ i. record { player = after_all panel q (each handing (due ks)); answer = Taken; line = 0; at = z i })
            ∙ ap (λ (ls : List Line). record { player = after_all panel p (each handing ls); answer = Taken; line = 0; at = at + length ls }) (sym d)

  -- ---- too many at once

  module _ (area : List ℕ) (position : ℕ) where
    -- a line for which there is no room
    no_room : (p : Panel) (k : ℕ) → K u is g p → Valid is (line_of area k) → (player_state_of p).plays.ended ≡ false → too_late (own p).reached (line_of area k).when ≡ false
        → most_lines ≤ length (own p).holds.waits → leb (ticks_in_rank k) position ≡ true
        → ((handed_of area position k p).more ≡ false) × (number_of (handed_of area position k p).answer ≡ 8)
    unfolding handed_of after_of core_after first_number
    no_room p k kept ok runs early full e =
        let l = line_of area k in
        let z : number_of (submit_of p.core keypad (line_words l)).answer ≡ 8 =
        ap first_number (eight-answered u is g p kept l ok runs early full) in
        (ap (λ (x : PanelHanded). x.more) (cond-true _ _ e) ∙ ap (λ (n : ℕ). eqb n 0) z, ap (λ (x : PanelHanded). number_of x.answer) (cond-true _ _ e) ∙ z)

    feed-full : (ks : List ℕ) (j at : ℕ) (p : Panel) → Rising ks → All (Tells area position) ks → K u is g p → All (Valid is) (due area position ks) → (player_state_of p).plays.ended ≡ false
        → All (λ (l : Line). too_late (own p).reached l.when ≡ false) (due area position ks) → length (own p).holds.waits + j ≡ most_lines → j < length (due area position ks)
        → (number_of (fed_from area position p at ks).answer ≡ 8) × ((fed_from area position p at ks).line ≡ number_in (get_or ks j 0))
    unfolding fed_from each filter
    feed-full [] j at p r t kept ok runs early n h = absurd (omega arith)
    feed-full (k ∷ ks) j at p r t kept ok runs early n h =
        by-test (leb (ticks_in_rank k) position)
        (λ e. let d : due area position (k ∷ ks) ≡ line_of area k ∷ due area position ks = cond-true _ _ (t.0 ∙ e) in
        one j (λ j q kq okq rq eq nq hq. feed-full ks j (at + 1) q r.1 t.1 kq okq rq eq nq hq) e (subst (All (Valid is)) d ok)
        (subst (All (λ (l : Line). too_late (own p).reached l.when ≡ false)) d early) n (subst (λ (ls : List Line). j < length ls) d h))
        (λ e. let d : due area position (k ∷ ks) ≡ [] = cond-false _ _ (t.0 ∙ e) ∙ filter_none (is_due position) (each (line_of area) ks) (none-behind area position k ks r.0 e t.1) in
        absurd (none_left (subst (λ (ls : List Line). j < length ls) d h)))
      where
        none_left : j < 0 → ⊥
        none_left h = omega arith

        one : (j : ℕ)
            → ((j : ℕ) (q : Panel) → K u is g q → All (Valid is) (due area position ks) → (player_state_of q).plays.ended ≡ false → All (λ (l : Line). too_late (own q).reached l.when ≡ false) (due area position ks)
            → length (own q).holds.waits + j ≡ most_lines → j < length (due area position ks)
            → (number_of (fed_from area position q (at + 1) ks).answer ≡ 8) × ((fed_from area position q (at + 1) ks).line ≡ number_in (get_or ks j 0)))
            → leb (ticks_in_rank k) position ≡ true → All (Valid is) (line_of area k ∷ due area position ks)
            → All (λ (l : Line). too_late (own p).reached l.when ≡ false) (line_of area k ∷ due area position ks) → length (own p).holds.waits + j ≡ most_lines → j < suc (length (due area position ks))
            → (number_of (fed_from area position p at (k ∷ ks)).answer ≡ 8) × ((fed_from area position p at (k ∷ ks)).line ≡ number_in (get_or (k ∷ ks) j 0))
        one zero rec e ok early n h =
            let x = no_room p k kept ok.0 runs early.0 (omega arith) e in
            let f : fed_from area position p at (k ∷ ks) ≡ record { player = (handed_of area position k p).panel; answer = (handed_of area position k p).answer; line = cond (is_taken (handed_of area position k p).answer) 0 (number_in k); at = at } =
            cond-false _ _ x.0 in
            (ap (λ (y : Feeds Panel). number_of y.answer) f ∙ x.1, ap (λ (y : Feeds Panel). y.line) f ∙ ap (λ (n : ℕ). cond (eqb n 0) 0 (number_in k)) x.1)
        one (suc j) rec e ok early n h =
            let l = line_of area k in
            let fit : Fits is keypad (own p).reached (length (own p).holds.waits) l =
            record { timed = λ u. absurd (false≢true u); playable = ok.0.playable; early = early.0; room = omega arith } in
            let q = (after_of p (handing l)).player in
            let o = one_more u is g 0 none p kept l ok.0 runs fit in
            let ended : (player_state_of q).plays.ended ≡ (player_state_of p).plays.ended = still-runs (own p) (own q) (l ∷ []) o in
            let reached : (own q).reached ≡ (own p).reached = ap (λ (h : History VoiceState). h.reached) o in
            let many : length (own q).holds.waits ≡ length ((own p).holds.waits ++ (l ∷ [])) = wait-behind (own p) (own q) (l ∷ []) o in
            let x = rec j q (hand-kept u is g 0 none p kept l ok.0 runs fit) ok.1 (ended ∙ runs)
            (subst⁻¹ (λ (r : Reached). All (λ (l : Line). too_late r l.when ≡ false) (due area position ks)) reached early.1)
            (omega (arith, many, length-append (own p).holds.waits (l ∷ []))) (omega arith) in
            let f : fed_from area position p at (k ∷ ks) ≡ fed_from area position q (at + 1) ks =
            ap (λ (x : PanelHanded). cond x.more (fed_from area position x.panel (at + 1) ks) (record { player = x.panel; answer = x.answer; line = cond (is_taken x.answer) 0 (number_in k); at = at }))
            (handed-due area position p k kept ok.0 runs (fit, tt) e) in
            (ap (λ (y : Feeds Panel). number_of y.answer) f ∙ x.0, ap (λ (y : Feeds Panel). y.line) f ∙ x.1)

  -- ---- a piece

  all_drop : {A : Type 0} (P : A → Type 0) (n : ℕ) (l : List A) → All P l → All P (drop n l)
  all_drop P zero l h = h
  all_drop P (suc n) [] h = h
  all_drop P (suc n) (a ∷ l) h = all_drop P n l h.1

  -- in the cycles from k on
  abbrev pub FewFrom : (ℕ → Settings) → List Line → ℕ → ℕ → Type 0
  FewFrom st xs k n = (j : ℕ) → k ≤ j → j < k + n → FewDue (tree_voices is) (start u is g) st xs j

  module _ (st : ℕ → Settings) (xs : List Line) (area order : List ℕ) (rises : Rising order) (ranked : All (Rank area 0) order) (timely : All (λ (k : ℕ). timed (line_of area k).when) order) where
    abbrev rest : ℕ → List Line
    rest at = each (line_of area) (drop at order)

    abbrev feed : ℕ → Panel → Feeds Panel
    feed at p = fed_of area order at p

    all_tell : (position : ℕ) (ks : List ℕ) → All (Rank area 0) ks → All (λ (k : ℕ). timed (line_of area k).when) ks → All (Tells area position) ks
    all_tell position [] a b = tt
    all_tell position (k ∷ ks) a b = (tells area position k a.0 b.0, all_tell position ks a.1 b.1)

    -- before cycle k
    pub record Comes (k : ℕ) (p : Panel) (at : ℕ) : Type 0 where
      pub kept : K u is g p
      pub stand : Stand u is g st xs k p (rest at)
      pub ok : All (Valid is) (rest at)

    record Fed (at : ℕ) (p : Panel) : Type 0 where
      next : ℕ
      so : feed at p ≡ record { player = after_all panel p (each handing (offered p (rest at))); answer = Taken; line = 0; at = next }
      left : rest next ≡ kept_back p (rest at)

    fed-so : (k : ℕ) → FewDue (tree_voices is) (start u is g) st xs k → (z : Last) (p : Panel) (at : ℕ) → Comes k p at → Fed at p
    unfolding fed_of offered kept_back each after_all
    fed-so k few z p at c =
        by-test (player_state_of p).plays.ended
        (λ e. record {
          next = at;
          so = cond-true _ _ e ∙ (let o : offered p (rest at) ≡ [] = cond-true _ _ e in ap (λ (ls : List Line). record { player = after_all panel p (each handing ls); answer = Taken; line = 0; at = at }) (sym o));
          left = sym (cond-true _ _ e);
        })
        (λ e. let position = (player_state_of p).plays.position in
        let o : offered p (rest at) ≡ filter (is_due position) (rest at) = cond-false _ _ e in
        let t = all_tell position (drop at order) (all_drop _ at order ranked) (all_drop _ at order timely) in
        record {
          next = at + length (filter (is_due position) (rest at));
          so = cond-false _ _ e
              ∙ feed-hands area position (drop at order) at p (rising-drop at order rises) t c.kept
              (subst (All (Valid is)) o (offered-all u is g st xs k few z p (rest at) c.kept c.stand c.ok _ c.ok))
              (subst (All (λ (l : Line). (player_state_of p).plays.ended ≡ false)) o (runs-all u is g st xs k few z p (rest at) c.kept c.stand c.ok))
              (subst (AllFit is keypad (own p).reached (length (own p).holds.waits)) o (all-fits u is g st xs k few z p (rest at) c.kept c.stand c.ok))
              ∙ ap (λ (ls : List Line). record { player = after_all panel p (each handing ls); answer = Taken; line = 0; at = at + length (filter (is_due position) (rest at)) }) (sym o);
          left = ap (each (line_of area)) (sym (drop-drop (length (filter (is_due position) (rest at))) at order)) ∙ later-ranks area position (drop at order) (rising-drop at order rises) t ∙ sym (cond-false _ _ e);
        })

    -- one round, its changes and undos made: what is seen from there, by what the feeder leaves
    abbrev cycle_of : ℕ → Last → List ℤ → Feeds Panel → Transition Panel
    cycle_of k z b f = transition_of panel k z f.player (cycle b)

    abbrev after : ℕ → Last → List ℤ → List Round → Feeds Panel → List (Seen Panel)
    after k z b rs f = let m = cycle_of k z b f in performance panel feed (cycles_with m) (last_with m) m.after.player f.at rs

    -- what a piece is seen to do from cycle k on, and where it comes to
    pub record Performs (seen : List (Seen Panel)) (k : ℕ) (r : PlayedTo Panel) : Type 0 where
      pub told : All (λ (x : Seen Panel). x.told ≡ Taken) seen
      pub good : All (AsPlain panel (tree_voices is) (start u is g) st xs) (calls_in seen)
      pub come : Comes k r.player r.at

    abbrev Agrees : ℕ → Panel → List (Transition Panel) → Type 0
    Agrees k p ms = Agree u.chosen st k (own p).set ms

    module _ (k : ℕ) (few : FewDue (tree_voices is) (start u is g) st xs k) (z : Last) (p : Panel) (at : ℕ) (c : Comes k p at) (b : List ℤ) (long : length b ≡ samples) where
      f : Fed at p
      f = fed-so k few z p at c

      ls : List Line
      ls = offered p (rest at)

      abbrev q : Panel
      q = after_all panel p (each handing (offered p (rest at)))

      handed : K u is g q × (own q ≡ with_lines (own p) (offered p (rest at)))
      handed =
          handed-all u is g (offered p (rest at)) p c.kept (offered-all u is g st xs k few z p (rest at) c.kept c.stand c.ok _ c.ok)
          (runs-all u is g st xs k few z p (rest at) c.kept c.stand c.ok) (all-fits u is g st xs k few z p (rest at) c.kept c.stand c.ok)

      abbrev m : Transition Panel
      m = transition_of panel k z q (cycle b)

      module _ (set_is : st k ≡ in_force u.chosen (own p).set) where
        good-cycle : AsPlain panel (tree_voices is) (start u is g) st xs m
        good-cycle = cycle-good u is g st xs k few z p (rest at) c.kept c.stand c.ok b long q handed.0 handed.1 set_is

        comes-next : Comes (suc k) m.after.player f.next
        comes-next =
            record {
              kept = next-kept u is g st xs k few z p (rest at) c.kept c.stand c.ok b long q handed.0 handed.1 set_is;
              stand = subst⁻¹ (Stand u is g st xs (suc k) m.after.player) f.left
                  (next-stand u is g st xs k few z p (rest at) c.kept c.stand c.ok b long q handed.0 handed.1 set_is);
              ok = subst⁻¹ (All (Valid is)) f.left (kept-all-of u is g st xs k few z p (rest at) c.kept c.stand c.ok _ c.ok);
            }

        agrees-next : (ms : List (Transition Panel)) → Agrees k p (m ∷ ms) → Agrees (suc k) m.after.player ms
        agrees-next ms a =
            let n = is-numbered u is g st xs k few z p (rest at) c.kept c.stand c.ok b long q handed.0 handed.1 set_is in
            subst⁻¹ (λ (x : InUse). Agree u.chosen st (suc k) x ms) (set_next u is g st xs k few z p (rest at) c.kept c.stand c.ok b long q handed.0 handed.1 set_is)
            (subst (λ (x : InUse). Agree u.chosen st (suc k) x ms) (cond-true _ _ n)
            (subst (λ (j : ℕ). Agree u.chosen st j (next_set (own p).set m) ms) (cond-true _ _ n) (agree_after u.chosen st (own p).set m ms a)))

    pub performs : (rs : List Round) (k : ℕ) → FewFrom st xs k (length rs) → (z : Last) (p : Panel) (at : ℕ) → Comes k p at → Agrees k p (calls_in (performance panel feed k z p at rs))
        → Performs (performance panel feed k z p at rs) (k + length rs) (played_to panel feed p at rs)
    unfolding performance played_to calls_in
    performs [] k many z p at c a = let e : k ≡ k + 0 = omega arith in record { told = tt; good = tt; come = subst (λ (n : ℕ). Comes n p at) e c }
    performs (r ∷ rs) k many z p at c a =
        let x = all_set u is g st xs (rest at) k z r.before r.sets_only p c.kept c.stand in
        let p' = after_all panel p r.before in
        let c' : Comes k p' at = record { kept = x.kept; stand = x.stand; ok = c.ok } in
        let few = many k (omega arith) (omega arith) in
        let pre = trace_from panel k z p r.before in
        let t = f k few z p' at c' r.block r.long in
        subst⁻¹ (λ (y : Feeds Panel). Agrees k p ((pre ++ (cycle_of k z r.block y ∷ [])) ++ calls_in (after k z r.block rs y))
        → Performs (record { told = y.answer; calls = pre ++ (cycle_of k z r.block y ∷ []) } ∷ after k z r.block rs y) (k + suc (length rs))
        (played_to panel feed (cycle_of k z r.block y).after.player y.at rs)) t.so
        (λ a'. one-round (λ k many z p at c a. performs rs k many z p at c a) few c' x a') a
      where
        one-round : ((k : ℕ) → FewFrom st xs k (length rs) → (z : Last) (p : Panel) (at : ℕ) → Comes k p at → Agrees k p (calls_in (performance panel feed k z p at rs))
            → Performs (performance panel feed k z p at rs) (k + length rs) (played_to panel feed p at rs))
            → (few : FewDue (tree_voices is) (start u is g) st xs k) (c' : Comes k (after_all panel p r.before) at) → AllSet u is g st xs (rest at) k z r.before p
            → let p' = after_all panel p r.before in
            let pre = trace_from panel k z p r.before in
            let q' = q k few z p' at c' r.block r.long in
            let m' = m k few z p' at c' r.block r.long in
            let next = (f k few z p' at c' r.block r.long).next in
            let later = performance panel feed (cycles_with m') (last_with m') m'.after.player next rs in
            Agrees k p ((pre ++ (m' ∷ [])) ++ calls_in later)
            → Performs (record { told = Taken; calls = pre ++ (m' ∷ []) } ∷ later) (k + suc (length rs)) (played_to panel feed m'.after.player next rs)
        one-round go few c' x a' =
            let p' = after_all panel p r.before in
            let pre = trace_from panel k z p r.before in
            let m' = m k few z p' at c' r.block r.long in
            let next = (f k few z p' at c' r.block r.long).next in
            let later = performance panel feed (cycles_with m') (last_with m') m'.after.player next rs in
            let b : Agrees k p' (m' ∷ calls_in later) = x.agrees (m' ∷ calls_in later) (subst (Agrees k p) (append_assoc pre (m' ∷ []) (calls_in later)) a') in
            let n : numbered (cycle r.block) ≡ true = eq-eqb (length r.block) samples r.long in
            let set_is = agree-here u.chosen st k (own p').set m' (calls_in later) b n in
            let l : cycles_with m' ≡ suc k = cond-true _ _ n in
            let o = go (suc k) (λ j v w. many j (omega arith) (omega arith)) (last_with m') m'.after.player next (comes-next k few z p' at c' r.block r.long set_is)
            (subst (λ (j : ℕ). Agrees (suc k) m'.after.player (calls_in (performance panel feed j (last_with m') m'.after.player next rs))) l
            (agrees-next k few z p' at c' r.block r.long set_is (calls_in later) b)) in
            let e : suc k + length rs ≡ k + suc (length rs) = omega arith in
            let o' = subst⁻¹ (λ (j : ℕ). Performs (performance panel feed j (last_with m') m'.after.player next rs) (suc k + length rs) (played_to panel feed m'.after.player next rs)) l o in
            record {
              told = (refl, o'.told);
              good = all_append (AsPlain panel (tree_voices is) (start u is g) st xs) (pre ++ (m' ∷ [])) (calls_in later)
                  (all_append (AsPlain panel (tree_voices is) (start u is g) st xs) pre (m' ∷ []) x.good (good-cycle k few z p' at c' r.block r.long set_is, tt)) o'.good;
              come = subst (λ (j : ℕ). Comes j (played_to panel feed m'.after.player next rs).player (played_to panel feed m'.after.player next rs).at) e o'.come;
            }

    pub full_at : (k : ℕ) (p : Panel) (at : ℕ) → Comes k p at → (plain u is g st xs k).plays.ended ≡ false → most_lines < length (due_of (plain u is g st xs k)).lines
        → (number_of (feed at p).answer ≡ 8) × ((feed at p).line ≡ number_in (get_or (drop at order) most_lines 0))
    unfolding fed_of due_at
    full_at k p at c e many =
        let y = c.stand in
        let run = y.running e in
        let ended : (player_state_of p).plays.ended ≡ false = ap (λ (h : PlayerState VoiceState). h.plays.ended) y.same ∙ e in
        let at_position : (player_state_of p).plays.position ≡ (plain u is g st xs k).plays.position = ap (λ (h : PlayerState VoiceState). h.plays.position) y.same in
        let position = (player_state_of p).plays.position in
        let ranks = drop at order in
        let t = all_tell position ranks (all_drop _ at order ranked) (all_drop _ at order timely) in
        let d : due area position ranks ≡ filter (is_due (plain u is g st xs k).plays.position) (plain u is g st xs k).waits = λ i. filter (is_due (at_position i)) (run.rest-is i) in
        let none-wait : length (own p).holds.waits ≡ 0 = ap (λ (h : PlayerState VoiceState). length h.waits) y.same ∙ ap length run.empty in
        let full = feed-full area position ranks most_lines at p (rising-drop at order rises) t c.kept (all_filter (is_due position) _ (rest at) c.ok) ended (all_filter (is_due position) _ (rest at) run.early)
        (omega (arith, none-wait)) (omega (arith, ap length d, length-ordered (filter (is_due (plain u is g st xs k).plays.position) (plain u is g st xs k).waits))) in
        (ap (λ (x : Feeds Panel). number_of x.answer) (cond-false _ _ ended) ∙ full.0, ap (λ (x : Feeds Panel). x.line) (cond-false _ _ ended) ∙ full.1)
