-- From the notes by place to the orchestra as it is written, and from the score in order of time to the score in its own order.
use mathlib.Core.Path.{◌≡◌, refl, sym, ap, ◌∙◌, subst, subst⁻¹}
use mathlib.Core.Bool.{false}
use mathlib.Core.List.{List, [], ◌∷◌}
use Prim.Native.Nat.{ℕ, ◌≤◌}
use native.Mathlib.Omega.{arith}
use lib.ListN.{length}
use lib.Dec.{T}
use lib.Ieee.{Float, nan, inf, fin, binary32, is_nan, fits, le, of_bits, to_bits}
use lib.Ieee.Fits.{and_l, and_r}
use Rattle.score_line.specs.declared.Range.TheVariants as range
use Rattle.base_timebase.specs.Time.{time_bits}
use Rattle.base_formats.specs.Description.{flag, format}
use Rattle.score_line.specs.LineFormat.{in_range, float, timed, when, after_time, parts, parts_of, filled, line}
use Rattle.score_line.specs.declared.When.{When}
use Rattle.score_line.specs.declared.When.TheVariants.{Timed, Untimed}
use Rattle.score_line.specs.declared.Line.{Line}
use Rattle.score_line_writer.specs.Writing.{line_words}
use Rattle.orchestra_syntax.specs.Tree.{Instrument}
use Rattle.voices_resolved.specs.Tree.{tree_voices}
use Rattle.voices_compiled.specs.Voices.{VoiceState}
use Rattle.voices_source.specs.Voices.{written_voices, Fits}
use Rattle.voices_source.specs.inside.Translation.{HeldAs}
use Rattle.voices_source.proofs.Related.{holds-related}
use Rattle.voices_source.proofs.Written.{named-related, every-piece}
use Rattle.player_model.specs.Lists.{All}
use Rattle.player_model.specs.PlayerState.{Settings, Due, PlayingState, due_at, due_of}
use Rattle.player_model.specs.Plain.{plain_start, plain_at}
use Rattle.player_model.specs.Results.{is_number}
use Rattle.player_model.specs.Calls.{keypad, one, Transition, cycles_with}
use Rattle.player_model.specs.Condition3.{AsPlain}
use Rattle.player_model.specs.History.{Reached, History}
use Rattle.player_model.proofs.Lists.{all_map, all_of}
use Rattle.panel.specs.declared.Panel.{Panel}
use Rattle.player_order.specs.UpTo.{SameUpTo}
use Rattle.player_order.specs.Order.{SameByTime, OrderOfTimes}
use Rattle.player_order.proofs.Order.{order-of-times}
use Rattle.panel_claims.specs.Verdict.{too_late, most_lines}
use Rattle.panel_claims.specs.Fresh.{Setup}
use Rattle.panel_claims.specs.Claims.{panel, Given, fresh}
use Rattle.panel_claims.proofs.Ranged.{AllRanged, reads-ranged}
use Rattle.panel_claims.proofs.Past.{fresh-own}
use Rattle.panel_claims.proofs.Written.{event-fits, as_written}
use Rattle.panel_piece_claims.specs.Playing.{FewDue}
use Rattle.panel_piece_claims.proofs.Feeding.{Valid, read-itself, start, Stand}

valid-fits : (is : List Instrument) (l : Line) → Valid is l → Fits is l l.event
valid-fits is l h = event-fits is l l.event h.playable (subst AllRanged (read-itself l h.in_range) (reads-ranged keypad (line_words l))).0

-- its time is a number
time-number : (t : Float) → T ((format (float range.Time)).valid t) → is_nan t ≡ false
unfolding float in_range time_bits to_bits le of_bits is_nan
time-number nan h = absurd (and_r (fits binary32 nan) false h)
time-number (inf s) h = refl
time-number (fin s m e) h = refl

when-number : (w : When) → T ((format when).valid w) → is_number w
unfolding when timed
when-number Untimed h = tt
when-number (Timed late t) h = time-number t (and_r ((format flag).valid late) ((format (float range.Time)).valid t) h)

valid-number : (is : List Instrument) (l : Line) → Valid is l → is_number l.when
unfolding line parts
valid-number is l h =
    when-number l.when (and_l ((format when).valid l.when) ((format after_time).valid (parts_of l).1) (and_r (filled l) ((format parts).valid (parts_of l)) h.in_range))

module _ (u : Setup) (is : List Instrument) (g : Given u is) (st : ℕ → Settings) (score in_order : List Line) (ok : All (Valid is) score) (ok' : All (Valid is) in_order)
    (by-time : SameByTime in_order score) where
  in-any-order : (k : ℕ) → SameUpTo (tree_voices is) (start u is g) st st in_order score k
  unfolding OrderOfTimes
  in-any-order =
      order-of-times VoiceState (tree_voices is) (start u is g) st in_order score (all_map _ _ (valid-number is) in_order ok') (all_map _ _ (valid-number is) score ok) by-time

  fitting : All (λ (l : Line). Fits is l l.event) score
  fitting = all_map _ _ (valid-fits is) score ok

  -- the same lines are due in each cycle, and the piece ends at the same
  pub due-written : (k : ℕ)
      → ((due_of (plain_at (tree_voices is) (start u is g) st in_order k)).lines ≡ (due_of (plain_at (written_voices is) (start u is g) st score k)).lines)
      × ((plain_at (tree_voices is) (start u is g) st in_order k).plays.ended ≡ (plain_at (written_voices is) (start u is g) st score k).plays.ended)
  due-written k =
      let a = in-any-order k in
      let h = holds-related (HeldAs is) (Fits is) (named-related is g.accepted.named) (start u is g) st score k fitting in (
        ap (λ (d : Due). d.lines) (a.due k (omega arith)) ∙ (λ i. due_at (h.position i) (h.waits i)),
        ap (λ (p : PlayingState VoiceState). p.ended) (a.plays k (omega arith)) ∙ h.ended,
      )

  pub few-by-place : (k : ℕ) → FewDue (written_voices is) (start u is g) st score k → FewDue (tree_voices is) (start u is g) st in_order k
  few-by-place k few e = subst⁻¹ (λ (ls : List Line). length ls ≤ most_lines) (due-written k).0 (few (sym (due-written k).1 ∙ e))

  pub begins : Stand u is g st in_order 0 (fresh u) in_order
  unfolding plain_at plain_start
  begins =
      record {
        w = [];
        same = ap (λ (h : History VoiceState). h.holds) (fresh-own u is g);
        running = λ e. record {
          empty = refl;
          rest-is = refl;
          early = subst⁻¹ (λ (r : Reached). All (λ (l : Line). too_late r l.when ≡ false) in_order) (ap (λ (h : History VoiceState). h.reached) (fresh-own u is g))
              (all_of _ (λ l. refl) in_order);
        };
      }

  -- a call that goes as the plain player by place with the lines in order of time goes as the one as written with the score
  pub in-own-order : (m : Transition Panel) → AsPlain panel (tree_voices is) (start u is g) st in_order m → AsPlain panel (written_voices is) (start u is g) st score m
  in-own-order m a =
      as_written is (start u is g) st score (λ n. every-piece is (start u is g) st score n g.accepted.named fitting) m
      (record {
        answer = λ u. a.answer u ∙ ap (λ (n : ℕ). one n 0) ((in-any-order m.cycles).answers m.cycles (omega arith));
        block = λ u z. a.block u z ∙ (in-any-order m.cycles).blocks m.cycles (omega arith);
        counts = a.counts ∙ (in-any-order (cycles_with m)).counts (cycles_with m) (omega arith);
      })
