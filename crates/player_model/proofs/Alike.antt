-- Condition 3, first half, for every player that follows its history.
use mathlib.Core.Path.{◌≡◌, refl, sym, ap, ◌∙◌, subst, subst⁻¹}
use mathlib.Core.Bool.{Bool, true, false, cond, true≢false, false≢true}
use mathlib.Core.List.{List, [], ◌∷◌, ◌++◌, append_assoc, append-nil}
use Prim.Native.Nat.{ℕ, zero, suc, ◌+◌, ◌≤◌}
use native.Mathlib.Omega.{arith}
use native.Mathlib.Nat.{le_refl}
use lib.Dec.{eqb}
use lib.Ieee.{Float}
use borrow.Author.Tests.{eqb-true}
use Rattle.score_line.specs.declared.Line.{Line}
use Rattle.player_model.specs.Lists.{All}
use Rattle.player_model.specs.Cycle.{Voices}
use Rattle.player_model.specs.PlayerState.{Settings, PlayerState, behind, with_messages, marked_ended, due_of, ends_by, answer_of, block_of, played, cycled}
use Rattle.player_model.specs.Plain.{plain_start, plain_at, answer_at, block_at}
use Rattle.midi_messages.specs.declared.NoteMessage.{NoteMessage}
use Rattle.settings_records.specs.declared.InUse.{InUse}
use Rattle.player_model.specs.Calls.{Call, submit, burst, keyboard, cycle, change, undo, messages_in, messages_taken, Answer, one, Player, numbered, taken_of, lines_of, is_zero, Last, none, Transition, taken_in, cycles_with, last_with, all_taken, transition_of, trace_from}
use Rattle.player_model.specs.Set.{in_force, starting_tempo, settings_by}
use Rattle.player_model.specs.Condition3.{InTime, AsPlain, NotKeyboard, PlainAlike}
use Rattle.player_model.specs.History.{History, unbegun, with_transition}
use Rattle.player_model.proofs.Lists.{by-test, either_way}
use Rattle.player_model.proofs.BySettings.{Agree, agree-here, agree_after, set_after}
use Rattle.player_model.proofs.Join.{AllAbove, behind-none, ends_join, block-join, plays-join}
use Rattle.player_model.proofs.Later.{From, later}

-- a call that holds no line
pub no_line : (given : List Answer) → taken_of ([] ∷ []) given ≡ []
no_line [] = refl
no_line (a ∷ given) = either_way (λ (l : List Line). l ++ [] ≡ []) (eqb a.number 0) refl refl

-- a numbered call brings no line
numbered-none : (c : Call) (given : List Answer) → numbered c ≡ true → taken_of (lines_of c) given ≡ []
numbered-none (submit d handed) given q = absurd (false≢true q)
numbered-none (burst bytes area) given q = absurd (false≢true q)
numbered-none (keyboard bytes) given q = absurd (false≢true q)
numbered-none (cycle b) given q = no_line given
numbered-none (change area handed) given q = absurd (false≢true q)
numbered-none (undo area) given q = absurd (false≢true q)

-- and only the keyboard brings note messages
no-message : (b : Bool) (c : Call) → NotKeyboard c → cond b (messages_in c) [] ≡ []
no-message b (keyboard bytes) h = absurd h
no-message b (submit d handed) h = either_way (λ (l : List NoteMessage). l ≡ []) b refl refl
no-message b (burst bytes area) h = either_way (λ (l : List NoteMessage). l ≡ []) b refl refl
no-message b (cycle block) h = either_way (λ (l : List NoteMessage). l ≡ []) b refl refl
no-message b (change area handed) h = either_way (λ (l : List NoteMessage). l ≡ []) b refl refl
no-message b (undo area) h = either_way (λ (l : List NoteMessage). l ≡ []) b refl refl

module _ {P S : Type 0} (e : Player P) (v : Voices S) (chosen : ℕ) where
  -- at a transition the player answers, sounds and counts as its history before it says, and takes no line after the end
  pub record Follows (h : History S) (m : Transition P) : Type 0 where
    pub answer : numbered m.call ≡ true → m.after.answers ≡ one (answer_of h.holds) 0
    pub block : numbered m.call ≡ true → is_zero m.after.answers ≡ true
        → m.after.buffers.block ≡ block_of v (in_force chosen h.set) (due_of h.holds) h.holds.plays
    pub counts : e.counts m.after.player ≡ (with_transition v chosen h m).holds.plays.counts
    pub over : h.holds.plays.ended ≡ true → taken_in m ≡ []

  abbrev pub AllFollow : History S → List (Transition P) → Type 0
  AllFollow h [] = Unit {0}
  AllFollow h (m ∷ ms) = Follows h m × AllFollow (with_transition v chosen h m) ms

  -- ---- after the end

  still-ended : (h : History S) (m : Transition P) → h.holds.plays.ended ≡ true → (with_transition v chosen h m).holds.plays.ended ≡ true
  unfolding behind with_messages cycled
  still-ended h m q = either_way (λ (x : History S). x.holds.plays.ended ≡ true) (numbered m.call) (rw q) q

  ended-taken : (h : History S) (ms : List (Transition P)) → AllFollow h ms → h.holds.plays.ended ≡ true → all_taken ms ≡ []
  unfolding all_taken
  ended-taken h [] f q = refl
  ended-taken h (m ∷ ms) f q = rw (f.0.over q) (ended-taken (with_transition v chosen h m) ms f.1 (still-ended h m q))

  -- ---- the settings by the number of the cycle

  module _ (settings : ℕ → Settings) where
    agree-next : (h : History S) (m : Transition P) (ms : List (Transition P)) → Agree chosen settings m.cycles h.set (m ∷ ms)
        → Agree chosen settings (cycles_with m) (with_transition v chosen h m).set ms
    agree-next h m ms a =
        subst⁻¹ (λ (x : InUse). Agree chosen settings (cycles_with m) x ms) (set_after v chosen h m) (agree_after chosen settings h.set m ms a)

  module _ (start : Float) (settings : ℕ → Settings) (ls : List Line) where
    -- ---- the plain player against what is held; f are the lines still to come

    -- it holds the same with these lines behind
    record Match (k : ℕ) (h : PlayerState S) (f : List Line) : Type 0 where
      runs : h.plays.ended ≡ false
      same : plain_at v start settings ls k ≡ behind f h

    -- both have ended
    record Over (k : ℕ) (h : PlayerState S) : Type 0 where
      here : h.plays.ended ≡ true
      plain : (plain_at v start settings ls k).plays.ended ≡ true
      same : h.plays.counts ≡ (plain_at v start settings ls k).plays.counts

    -- both answer n
    record Both (k : ℕ) (h : PlayerState S) (n : ℕ) : Type 0 where
      plain : answer_at v start settings ls k ≡ n
      here : answer_of h ≡ n
      block : n ≡ 0 → block_at v start settings ls k ≡ block_of v (settings k) (due_of h) h.plays

    -- one transition more, for a numbered cycle call and for any other
    turned : (R : ℕ → PlayerState S → Type 0) (h : History S) (m : Transition P) → settings m.cycles ≡ in_force chosen h.set → numbered m.call ≡ true
        → R (suc m.cycles) (cycled v (settings m.cycles) h.holds) → R (cycles_with m) (with_transition v chosen h m).holds
    turned R h m a q x = let y = subst (λ (s : Settings). R (suc m.cycles) (cycled v s h.holds)) a x in rw q y

    stayed : (R : ℕ → PlayerState S → Type 0) (h : History S) (m : Transition P) → numbered m.call ≡ false
        → R m.cycles (with_messages (messages_taken m) (behind (taken_in m) h.holds)) → R (cycles_with m) (with_transition v chosen h m).holds
    stayed R h m q x = rw q x

    module _ (k : ℕ) (h : PlayerState S) where
      over-answers : Over k h → Both k h 9
      unfolding answer_at answer_of
      over-answers o = record { plain = rw o.plain; here = rw o.here; block = λ z. absurd (omega arith) }

      over-cycle : Over k h → Over (suc k) (cycled v (settings k) h)
      unfolding plain_at cycled
      over-cycle o = record { here = rw o.here; plain = rw o.plain; same = rw (o.here, o.plain) o.same }

      -- a call of another kind changes nothing that plays
      over-still : (xs : List Line) (ms : List NoteMessage) → Over k h → Over k (with_messages ms (behind xs h))
      unfolding behind with_messages
      over-still xs ms o = record { here = o.here; plain = o.plain; same = o.same }

      match-counts : (f : List Line) → Match k h f → h.plays.counts ≡ (plain_at v start settings ls k).plays.counts
      unfolding behind
      match-counts f x = ap (λ (d : PlayerState S). d.plays.counts) (sym x.same)

      match-took : (xs f : List Line) (ms : List NoteMessage) → ms ≡ [] → Match k h (xs ++ f) → Match k (with_messages ms (behind xs h)) f
      unfolding behind with_messages
      match-took xs f ms e x =
          let q : h.messages ≡ h.messages ++ ms = cc (append-nil h.messages) in
          record { runs = x.runs; same = x.same ∙ (λ i. record { waits = sym (append_assoc h.waits xs f) i; messages = q i; plays = h.plays }) }

      -- step 1 ends the piece for both
      match-ends : Match k h [] → ends_by (due_of h) h.plays ≡ true → Both k h 9 × Over (suc k) (cycled v (settings k) h)
      unfolding answer_at answer_of plain_at cycled marked_ended
      match-ends x t =
          let q : plain_at v start settings ls k ≡ h = x.same ∙ behind-none h in
          let nine : answer_of h ≡ 9 = rw (t, x.runs) in
          let end : (cycled v (settings k) h).plays.ended ≡ true = rw (t, x.runs) in (
            record { plain = ap answer_of q ∙ nine; here = nine; block = λ z. absurd (omega arith) },
            record {
              here = end;
              plain = ap (λ (d : PlayerState S). (cycled v (settings k) d).plays.ended) q ∙ end;
              same = ap (λ (d : PlayerState S). (cycled v (settings k) d).plays.counts) (sym q);
            },
          )

      -- both play
      match-plays : (f : List Line) → Match k h f → AllAbove (plain_at v start settings ls k).plays.position f → ends_by (due_of h) h.plays ≡ false
          → Both k h 0 × Match (suc k) (cycled v (settings k) h) f
      unfolding answer_at answer_of block_at plain_at cycled played behind
      match-plays f x above t =
          let a : AllAbove h.plays.position f = subst (λ (d : PlayerState S). AllAbove d.plays.position f) x.same above in (
            record {
              plain = ap answer_of x.same ∙ rw (ends_join h f a, t, x.runs);
              here = rw (t, x.runs);
              block = λ z. ap (λ (d : PlayerState S). block_of v (settings k) (due_of d) d.plays) x.same ∙ block-join h f a v (settings k);
            },
            record { runs = rw (t, x.runs); same = ap (cycled v (settings k)) x.same ∙ plays-join h f a v (settings k) x.runs t },
          )

    -- what a call shows, from the plain player's cycle
    as_plain : (h : History S) (m : Transition P) {n : ℕ} → Follows h m → (numbered m.call ≡ true → settings m.cycles ≡ in_force chosen h.set)
        → (numbered m.call ≡ true → Both m.cycles h.holds n)
        → (with_transition v chosen h m).holds.plays.counts ≡ (plain_at v start settings ls (cycles_with m)).plays.counts → AsPlain e v start settings ls m
    as_plain h m {n} f a b c =
        record {
          answer = λ q. cc (f.answer q, (b q).plain, (b q).here);
          block = λ q z. f.block q z ∙ ap (λ (s : Settings). block_of v s (due_of h.holds) h.holds.plays) (sym (a q)) ∙ sym ((b q).block (eqb-true n 0 (cc (f.answer q, (b q).here))));
          counts = f.counts ∙ c;
        }

    afterwards : (cs : List Call) (k : ℕ) (z : Last) (p : P) (h : History S) → AllFollow h (trace_from e k z p cs) → Agree chosen settings k h.set (trace_from e k z p cs) → Over k h.holds
        → All (AsPlain e v start settings ls) (trace_from e k z p cs)
    unfolding trace_from
    afterwards [] k z p h f g o = tt
    afterwards (c ∷ cs) k z p h f g o =
        let m = transition_of e k z p c in
        let here = agree-here chosen settings k h.set m _ g in
        let o' : Over (cycles_with m) (with_transition v chosen h m).holds =
        by-test (numbered c) (λ q. turned Over h m (here q) q (over-cycle k h.holds o)) (λ q. stayed Over h m q (over-still k h.holds (taken_in m) (messages_taken m) o)) in
        (as_plain h m f.0 here (λ q. over-answers k h.holds o) o'.same, afterwards cs _ _ _ (with_transition v chosen h m) f.1 (agree-next settings h m _ g) o')

    -- ---- while the piece runs

    Goes : List Call → Type 0
    Goes cs =
        All NotKeyboard cs → (k : ℕ) (z : Last) (p : P) (h : History S) → AllFollow h (trace_from e k z p cs)
        → Agree chosen settings k h.set (trace_from e k z p cs) → Match k h.holds (all_taken (trace_from e k z p cs)) → All (InTime e v start settings ls) (trace_from e k z p cs)
        → All (AsPlain e v start settings ls) (trace_from e k z p cs)

    -- one call, and then the others
    module _ (c : Call) (cs : List Call) (bare_of : All NotKeyboard (c ∷ cs)) (rec : Goes cs) (k : ℕ) (z : Last) (p : P) (h : History S) where
      abbrev m : Transition P
      m = transition_of e k z p c

      abbrev rest : List (Transition P)
      rest = trace_from e (cycles_with m) (last_with m) (e.after p c).player cs

      abbrev h' : History S
      h' = with_transition v chosen h m

      module _ (f : AllFollow h (m ∷ rest)) (g : Agree chosen settings k h.set (m ∷ rest)) (is : All (InTime e v start settings ls) rest) where
        here : numbered c ≡ true → settings k ≡ in_force chosen h.set
        here = agree-here chosen settings k h.set m rest g

        -- a call after which both go on
        goes_on : {n : ℕ} → (numbered c ≡ true → Both k h.holds n) → Match (cycles_with m) h'.holds (all_taken rest) → All (AsPlain e v start settings ls) (m ∷ rest)
        unfolding Goes
        goes_on b x = (as_plain h m f.0 here b (match-counts _ h'.holds _ x), rec bare_of.1 _ _ _ h' f.1 (agree-next settings h m rest g) x is)

        -- it is at an entrance, or of another length
        unnumbered : numbered c ≡ false → Match k h.holds (taken_in m ++ all_taken rest) → All (AsPlain e v start settings ls) (m ∷ rest)
        unnumbered q x =
            goes_on {n = 0} (λ w. absurd (true≢false (sym w ∙ q))) (stayed (λ (n : ℕ) (d : PlayerState S). Match n d (all_taken rest)) h m q
            (match-took k h.holds (taken_in m) (all_taken rest) (messages_taken m) (no-message (is_zero (e.after p c).answers) c bare_of.0) x))

        -- it finds the end
        finds-end : numbered c ≡ true → Match k h.holds (all_taken rest) → ends_by (due_of h.holds) h.holds.plays ≡ true → All (AsPlain e v start settings ls) (m ∷ rest)
        unfolding cycled marked_ended
        finds-end q x t =
            let ended : h'.holds.plays.ended ≡ true = rw (q, t, x.runs) in
            let y = match-ends k h.holds (subst (Match k h.holds) (ended-taken h' rest f.1 ended) x) t in
            let o = turned Over h m (here q) q y.1 in
            (as_plain h m f.0 here (λ w. y.0) o.same, afterwards cs _ _ _ h' f.1 (agree-next settings h m rest g) o)

        -- it plays
        plays : numbered c ≡ true → Match k h.holds (all_taken rest) → ends_by (due_of h.holds) h.holds.plays ≡ false → All (AsPlain e v start settings ls) (m ∷ rest)
        unfolding answer_of
        plays q x t =
            let zero : is_zero (e.after p c).answers ≡ true = rw (f.0.answer q, t, x.runs) in
            let from : From k (last_with m) = rw (q, zero) (le_refl _) in
            let least : k ≤ cycles_with m = either_way (λ (n : ℕ). k ≤ n) (numbered c) (omega arith) (omega arith) in
            let above = later e v start settings ls k cs (e.after p c).player (last_with m) (cycles_with m) from least is in
            let y = match-plays k h.holds (all_taken rest) x above t in
            goes_on (λ w. y.0) (turned (λ (n : ℕ) (d : PlayerState S). Match n d (all_taken rest)) h m (here q) q y.1)

        next : Match k h.holds (taken_in m ++ all_taken rest) → All (AsPlain e v start settings ls) (m ∷ rest)
        next x =
            let bare : numbered c ≡ true → Match k h.holds (all_taken rest) = λ q.
            subst (λ (l : List Line). Match k h.holds (l ++ all_taken rest)) (numbered-none c (e.after p c).answers q) x in
            by-test (numbered c) (λ q. by-test (ends_by (due_of h.holds) h.holds.plays) (finds-end q (bare q)) (plays q (bare q))) (λ q. unnumbered q x)

    goes : (cs : List Call) → Goes cs
    unfolding Goes trace_from all_taken
    goes [] = λ g k z p h f a x i. tt
    goes (c ∷ cs) = λ g k z p h f a x i. next c cs g (goes cs) k z p h f a i.1 x

  -- a player that follows its history from its start agrees with the plain player that has the same settings at the same cycles
  pub plain-alike : (k : InUse) (p : P) → ((cs : List Call) → AllFollow (unbegun k) (trace_from e 0 none p cs)) → PlainAlike e v chosen k p
  unfolding PlainAlike Goes Agree plain_at behind plain_start
  plain-alike k p f cs g i =
      let ms = trace_from e 0 none p cs in
      let same : (n j : ℕ) → n ≡ 0 + j → settings_by chosen k ms n ≡ settings_by chosen k ms j = λ n j q. ap (settings_by chosen k ms) (let z : n ≡ j = omega (arith, q) in z) in
      goes (starting_tempo k) (settings_by chosen k ms) (all_taken ms) cs g 0 none p (unbegun k) (f cs) same (record { runs = refl; same = refl }) i
