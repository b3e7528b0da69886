-- A fresh start: the first check that fails, and the panel that comes with the number.
use mathlib.Core.Path.{◌≡◌, refl, sym, ap, ◌∙◌, subst, subst⁻¹}
use mathlib.Core.Bool.{Bool, true, false, not, cond, true≢false}
use mathlib.Core.List.{List, [], ◌∷◌}
use Prim.Native.Nat.{ℕ, ◌≤◌}
use native.Mathlib.Omega.{arith}
use lib.ListN.{length}
use lib.Dec.{ltb, eqb}
use borrow.Author.Tests.{ltb-true, ltb-false, eqb-true, eqb-false}
use Rattle.settings_records.specs.Form as settings
use Rattle.settings_records.specs.Form.{Valid}
use Rattle.settings_records.specs.inside.Reading.{found_in, walked}
use Rattle.settings_records.specs.Changes.{area_bytes, none_in_use, laid_at, change_of}
use Rattle.settings_records.specs.Form.{Found}
use Rattle.settings_records.specs.declared.Setting.{Setting}
use Rattle.settings_records.specs.declared.InUse.{InUse}
use Rattle.base_answer.specs.declared.Answered.{Answered}
use Rattle.settings_records.proofs.Walk.{found-fits}
use Rattle.settings_records.proofs.Changing.{change-joins, other-length, left-over, new-fault}
use Rattle.settings_records.proofs.Meaning.{every-record, one-meaning as read-meaning}
use Rattle.settings_records.proofs.Stack.{changed-taken}
use Rattle.settings_records.proofs.Sets.{change-sets, change-valid}
use Rattle.player_model.specs.Set.{starting_tempo}
use Rattle.base_answer.specs.Numbers.{number_of, is_taken}
use Rattle.base_answer.specs.declared.Answer.TheVariants.{Taken, CutShort, OutOfRange, LeftOver, UnknownVersion, NoInstrument}
use Rattle.base_answer.specs.declared.Answer.{Answer}
use Rattle.orchestra_tokens.specs.declared.Token.{Token}
use Rattle.orchestra_tokens.specs.Encoding.{Bytes}
use Rattle.orchestra_tokens.proofs.RoundTrip.{one-decoding}
use Rattle.orchestra_tokens.specs.Measures.{longest, measured}
use Rattle.orchestra_syntax.specs.Tree.{Instrument}
use Rattle.orchestra_syntax.specs.Names.{name_rules}
use Rattle.orchestra_syntax.specs.Rates.{rate_rules}
use Rattle.orchestra_syntax.specs.Grammar.{Orchestra}
use Rattle.orchestra_grammar.proofs.Unique.{unique}
use Rattle.orchestra_reader.specs.inside.Reading.{read_of}
use Rattle.orchestra_reader.specs.declared.OrchestraRead.{OrchestraRead}
use Rattle.orchestra_reader.specs.Verdict as orchestra
use Rattle.orchestra_reader.proofs.Verdict.{every-verdict}
use Rattle.score_bursts.specs.Bursts.{fault}
use Rattle.player_model.specs.Lists.{each, Some}
use Rattle.player_model.proofs.Lists.{by-test, cond-true, cond-false}
use Rattle.code_loader.specs.Loading.{load_of}
use Rattle.code_loader_claims.specs.Claims.{StandsFor}
use Rattle.code_loader_claims.proofs.Loaded.{loaded, taken-only}
use Rattle.midi_queue.specs.Keyboard.{no_messages}
use Rattle.panel.specs.Display.{Display, display_of}
use Rattle.panel.specs.State.{panel_at, player_state_of}
use Rattle.player_start.specs.Starting.{has_chosen, start_of, refused_start, starting_of, area_started}
use Rattle.player_start.specs.declared.Start.{Start}
use Rattle.panel.specs.Calls.{fresh_of}
use Rattle.player_model.specs.Plain.{plain_start}
use Rattle.player_model.specs.Calls.{none as none_yet}
use Rattle.panel_claims.specs.Fresh.{Setup, Check, First, fails, holds, all, Tokens, Tree, checks, orchestra_checks}
use Rattle.panel_claims.specs.Claims.{panel, first_in_use, fresh_by, area_by, Begun, nothing, FreshVerdict}
use Rattle.panel_claims.proofs.Settings.{laid-there}
use Rattle.panel_claims.proofs.Ended.{all-ended}
use Rattle.panel_claims.proofs.Starts.{content-small, whole-taken}
use Rattle.panel_claims.proofs.Answers.{change-number}
use Rattle.panel_claims.proofs.Chosen.{chosen-there, there-chosen}

first_one : {cs : List Check} {n m : ℕ} → First cs n → First cs m → n ≡ m
first_one (fails f) (fails g) = refl
first_one (fails f) (holds a r) = absurd (f a)
first_one (holds a r) (fails g) = absurd (g a)
first_one (holds a r) (holds b s) = first_one r s
first_one all all = refl

-- the checks of the area and the first record all hold
pub record Passed (u : Setup) : Type 0 where
  pub whole : length u.area ≡ area_bytes
  pub is-record : (s : Setting) × settings.IsRecord u.first s

module _ (u : Setup) (law : Passed u) where
  abbrev bs : List ℕ
  bs = u.orchestra

  -- bytes that are a record are no fault
  no-fault : (a : Answer) → is_taken a ≡ false → settings.Parses u.first (settings.refused_as a) → ⊥
  no-fault a e x =
      true≢false (ap (λ (f : Found). is_taken f.answer) (sym (read-meaning u.first _ law.is-record.1) ∙ read-meaning u.first _ x) ∙ e)

  -- the orchestra's checks come behind them
  passed : {n : ℕ} → First (orchestra_checks u) n → First (checks u) n
  passed f =
      holds law.whole (holds (no-fault CutShort refl) (holds (no-fault LeftOver refl) (holds (no-fault UnknownVersion refl) (holds (no-fault OutOfRange refl) (holds law.is-record f)))))

  abbrev names : Check
  names = record { number = 14; asks = Tree bs (λ is. name_rules is ≡ true) }

  abbrev rates : Check
  rates = record { number = 15; asks = Tree bs (λ is. rate_rules is ≡ true) }

  abbrev choice : Check
  choice = record { number = 4; asks = Tree bs (λ is. Some (λ (i : Instrument). i.name ≡ u.chosen) is) }

  abbrev grammar : Check
  grammar = record { number = 13; asks = Tree bs (λ is. Unit {0}) }

  measured-so : (ts : List Token) → orchestra.Sized bs ts → {n : ℕ} → First (grammar ∷ names ∷ rates ∷ choice ∷ []) n → First (checks u) n
  measured-so ts s f =
      let is-tokens : Tokens bs (λ us. Unit {0}) = (ts, s.encodes, tt) in
      let within : Tokens bs (λ us. measured us ≡ true) = (ts, s.encodes, s.within) in
      passed (holds s.short (holds is-tokens (holds within f)))

  derived-so : (ts : List Token) (is : List Instrument) → orchestra.Sized bs ts → Orchestra is ts → {n : ℕ} → First (names ∷ rates ∷ choice ∷ []) n → First (checks u) n
  derived-so ts is s d f =
      let derived : Tree bs (λ js. Unit {0}) = (ts, is, s.encodes, d, tt) in measured-so ts s (holds derived f)

  -- an orchestra that is not accepted
  by-verdict : (o : OrchestraRead) → orchestra.Verdict bs o → is_taken o.answer ≡ false → First (checks u) (number_of o.answer)
  by-verdict o (orchestra.too_long lt) t = passed (fails (λ (le : length bs ≤ longest). omega arith))
  by-verdict o (orchestra.no_tokens le e) t = passed (holds le (fails (λ (x : Tokens bs (λ ts. Unit {0})). e x.0 x.1)))
  by-verdict o (orchestra.too_large ts le e m) t =
      let is-tokens : Tokens bs (λ us. Unit {0}) = (ts, e, tt) in
      passed (holds le (holds is-tokens (fails (λ (x : Tokens bs (λ ts. measured ts ≡ true)).
      true≢false (sym x.2 ∙ ap measured (one-decoding bs x.0 ts x.1 e) ∙ m)))))
  by-verdict o (orchestra.outside ts s f) t =
      measured-so ts s
      (fails (λ (x : Tree bs (λ js. Unit {0})). f x.1 (subst (Orchestra x.1) (one-decoding bs x.0 ts x.2 s.encodes) x.3)))
  by-verdict o (orchestra.misnamed ts is s d n) t =
      derived-so ts is s d
      (fails (λ (x : Tree bs (λ js. name_rules js ≡ true)). true≢false (sym x.4 ∙ ap name_rules (unique x.3 d (one-decoding bs x.0 ts x.2 s.encodes)) ∙ n)))
  by-verdict o (orchestra.misrated ts is s d n r) t =
      let named : Tree bs (λ js. name_rules js ≡ true) = (ts, is, s.encodes, d, n) in
      derived-so ts is s d
      (holds named
      (fails (λ (x : Tree bs (λ js. rate_rules js ≡ true)). true≢false (sym x.4 ∙ ap rate_rules (unique x.3 d (one-decoding bs x.0 ts x.2 s.encodes)) ∙ r))))
  by-verdict o (orchestra.accepted is a) t = absurd (true≢false t)

  -- one that is, by its tree
  by-tree : (is : List Instrument) (a : orchestra.Accepted bs is) → {n : ℕ} → First (choice ∷ []) n → First (checks u) n
  by-tree is a f =
      let named : Tree bs (λ js. name_rules js ≡ true) = (a.tokens, is, a.sized.encodes, a.derived, a.named) in
      let rated : Tree bs (λ js. rate_rules js ≡ true) = (a.tokens, is, a.sized.encodes, a.derived, a.rated) in
      derived-so a.tokens is a.sized a.derived (holds named (holds rated f))

  there-so : (is : List Instrument) → orchestra.Accepted bs is → Some (λ (i : Instrument). i.name ≡ u.chosen) is → First (checks u) 0
  there-so is a s = let there : Tree bs (λ js. Some (λ (i : Instrument). i.name ≡ u.chosen) js) = (a.tokens, is, a.sized.encodes, a.derived, s) in by-tree is a (holds there all)

  absent-so : (is : List Instrument) → orchestra.Accepted bs is → (Some (λ (i : Instrument). i.name ≡ u.chosen) is → ⊥) → First (checks u) 4
  absent-so is a n =
      by-tree is a
      (fails (λ (x : Tree bs (λ js. Some (λ (i : Instrument). i.name ≡ u.chosen) js)).
      n (subst (Some (λ (i : Instrument). i.name ≡ u.chosen)) (unique x.3 a.derived (one-decoding bs x.0 a.tokens x.2 a.sized.encodes)) x.4)))

-- ---- the two kinds of start

-- both outcomes of a test
either : {P : Type 1} (b : Bool) → (b ≡ true → P) → (b ≡ false → P) → P
either true f g = f refl
either false f g = g refl

-- what a fresh start gives, by its first record, by its orchestra's answer and by the choice
out : Setup → Bool → Bool → Bool → Start
out u law taken there =
    let c = change_of none_in_use u.area u.first in
    let r = load_of u.orchestra in
    cond law
    (cond taken (cond there (start_of r.left c.left u.chosen false r.answer) (refused_start r.left NoInstrument)) (refused_start r.left r.answer))
    (refused_start (load_of []).left c.answer)

-- a record that is whole and valid is taken at a fresh start, and no other
module _ (u : Setup) where
  abbrev first-of : Answered InUse
  first-of = change_of none_in_use u.area u.first

  is-record-so : is_taken first-of.answer ≡ true → settings.IsRecord u.first (found_in u.first).setting
  is-record-so t =
      subst (settings.Parses u.first) (change-joins 0 u.area u.first (changed-taken none_in_use u.area u.first t)).new (every-record u.first)

  passed-so : is_taken first-of.answer ≡ true → Passed u
  passed-so t =
      let j = change-joins 0 u.area u.first (changed-taken none_in_use u.area u.first t) in
      record {
        whole = j.whole;
        is-record = ((found_in u.first).setting, is-record-so t);
      }

  -- the number of a start whose record is refused
  refused-so : is_taken first-of.answer ≡ false → First (checks u) (number_of first-of.answer)
  unfolding walked
  refused-so t =
      either (eqb (length u.area) area_bytes) (λ q. whole-so (eqb-true (length u.area) area_bytes q))
      (λ q. subst⁻¹ (First (checks u)) (change-number none_in_use u.area u.first (other-length 0 u.area u.first (eqb-false (length u.area) area_bytes q) refl))
      (fails (eqb-false (length u.area) area_bytes q)))
    where
      Not : Answer → Type 0
      Not a = settings.Parses u.first (settings.refused_as a) → ⊥

      -- what the bytes say they say alone
      alone : {x y : Found} → settings.Parses u.first x → settings.Parses u.first y → number_of x.answer ≡ number_of y.answer
      alone {x} {y} a b = ap (λ (f : Found). number_of f.answer) (sym (read-meaning u.first x a) ∙ read-meaning u.first y b)

      other : {f : Found} → settings.Parses u.first f → (x : Answer) → (number_of f.answer ≡ number_of x → ⊥) → Not x
      other a x ne = λ b. ne (alone a b)

      by-say : {f : Found} → length u.area ≡ area_bytes → settings.Parses u.first f → {bs : List ℕ} → bs ≡ u.first → settings.Parses bs f → is_taken f.answer ≡ false
          → First (checks u) (number_of f.answer)
      by-say w a e (settings.cut_length h) z = holds w (fails (λ (n : Not CutShort). n a))
      by-say w a e (settings.cut_record l) z = holds w (fails (λ (n : Not CutShort). n a))
      by-say w a e (settings.length_zero x) z = holds w (holds (other a CutShort (λ q. omega (arith, q))) (fails (λ (n : Not LeftOver). n a)))
      by-say w a e (settings.wrong_length body r x k bad) z = holds w (holds (other a CutShort (λ q. omega (arith, q))) (fails (λ (n : Not LeftOver). n a)))
      by-say w a e (settings.other_version body r x n₁ n₂) z =
          holds w (holds (other a CutShort (λ q. omega (arith, q))) (holds (other a LeftOver (λ q. omega (arith, q))) (fails (λ (n : Not UnknownVersion). n a))))
      by-say w a e (settings.bad_number r x b bad) z =
          holds w (holds (other a CutShort (λ q. omega (arith, q))) (holds (other a LeftOver (λ q. omega (arith, q))) (holds (other a UnknownVersion (λ q. omega (arith, q)))
          (fails (λ (n : Not OutOfRange). n a)))))
      by-say w a e (settings.valid r x b l) z = absurd (true≢false z)

      none : (a : Answer) → is_taken a ≡ false → is_taken (found_in u.first).answer ≡ true → settings.Parses u.first (settings.refused_as a) → ⊥
      none a e g x = true≢false (sym g ∙ ap (λ (f : Found). is_taken f.answer) (read-meaning u.first _ x) ∙ e)

      whole-so : length u.area ≡ area_bytes → First (checks u) (number_of first-of.answer)
      whole-so w =
          let f = found_in u.first in
          let says = every-record u.first in
          either (is_taken f.answer)
          (λ g. let fits = found-fits u.first in
          either (ltb f.size (length u.first))
          (λ q. subst⁻¹ (First (checks u))
          (change-number none_in_use u.area u.first (left-over 0 u.area u.first w refl refl refl refl refl (ap not g) (ltb-true f.size (length u.first) q) refl))
          (holds w (holds (none CutShort refl g) (holds (none LeftOver refl g) (holds (none UnknownVersion refl g) (holds (none OutOfRange refl g)
          (fails (λ (x : (s : Setting) × settings.IsRecord u.first s).
          omega (arith, ltb-true f.size (length u.first) q, ap (λ (y : Found). y.size) (read-meaning u.first _ x.1))))))))))
          (λ q. absurd (true≢false (sym (whole-taken u.area u.first f.setting w
          (fits.shape g ∙ ap (settings.found f.setting) (let e : f.size ≡ length u.first = omega (arith, ltb-false f.size (length u.first) q, fits.most g) in e))
          (omega (arith, content-small says g, ltb-false f.size (length u.first) q))) ∙ t))))
          (λ g. subst⁻¹ (First (checks u))
          (change-number none_in_use u.area u.first (new-fault 0 u.area u.first w refl refl refl refl refl (ap not g) refl))
          (by-say w says refl says g))

module _ (u : Setup) (bytes : Bytes u.orchestra) where
  abbrev os : List ℕ
  os = u.orchestra

  -- only an accepted orchestra is taken
  taken_is : is_taken (load_of os).answer ≡ true → (load_of os).answer ≡ Taken
  unfolding load_of
  taken_is = go (every-verdict os bytes)
    where
      go : {o : OrchestraRead} → orchestra.Verdict os o → is_taken o.answer ≡ true → o.answer ≡ Taken
      go (orchestra.too_long lt) t = cc
      go (orchestra.no_tokens le e) t = cc
      go (orchestra.too_large ts le e m) t = cc
      go (orchestra.outside ts s f) t = cc
      go (orchestra.misnamed ts is s d n) t = cc
      go (orchestra.misrated ts is s d n r) t = cc
      go (orchestra.accepted is a) t = refl

  module _ (law : Passed u) where
    -- the number of a refused orchestra
    refused-first : is_taken (load_of os).answer ≡ false → First (checks u) (number_of (load_of os).answer)
    unfolding load_of
    refused-first t = by-verdict u law (read_of os) (every-verdict os bytes) t

    module _ (t : is_taken (load_of os).answer ≡ true) where
      tree_of : (is : List Instrument) × orchestra.Accepted os is
      tree_of = taken-only os bytes (taken_is t)

      program-stands : StandsFor tree_of.0 (load_of os).left
      program-stands = (loaded os tree_of.0 tree_of.1).stands

      taken-first : has_chosen (load_of os).left u.chosen ≡ true → First (checks u) (number_of (load_of os).answer)
      taken-first c =
          rw (taken_is t)
          (there-so u law tree_of.0 tree_of.1 (there-chosen tree_of.0 (load_of os).left program-stands u.chosen c))

      absent-first : has_chosen (load_of os).left u.chosen ≡ false → First (checks u) 4
      absent-first c =
          absent-so u law tree_of.0 tree_of.1 (λ s. true≢false (sym (chosen-there tree_of.0 (load_of os).left program-stands u.chosen s) ∙ c))

  number_is : (a t c : Bool) → is_taken (first-of u).answer ≡ a → is_taken (load_of os).answer ≡ t → has_chosen (load_of os).left u.chosen ≡ c
      → First (checks u) (number_of (out u a t c).answer)
  unfolding out start_of
  number_is true true true l q r = taken-first (passed-so u l) q r
  number_is true true false l q r = absent-first (passed-so u l) q r
  number_is true false c l q r = refused-first (passed-so u l) q
  number_is false t c l q r = refused-so u l

  number : First (checks u) (number_of (fresh_by u).answer)
  unfolding fresh_of starting_of out
  number = number_is (is_taken (first-of u).answer) (is_taken (load_of os).answer) (has_chosen (load_of os).left u.chosen) refl refl refl

  begun-holds : player_state_of (panel_at (start_of (load_of os).left (first-of u).left u.chosen false (load_of os).answer)) ≡ plain_start (starting_tempo (first-of u).left) []
  unfolding start_of plain_start each no_messages
  begun-holds = refl

  -- the panel where it is 0
  begun-is : is_taken (first-of u).answer ≡ true → (load_of os).answer ≡ Taken → has_chosen (load_of os).left u.chosen ≡ true
      → Begun u (panel_at (start_of (load_of os).left (first-of u).left u.chosen false (load_of os).answer))
  unfolding start_of
  begun-is l e c =
      let x = taken-only os bytes e in
      let r = (loaded os x.0 x.1).stands in
      let k : (first-of u).left ≡ first_in_use u = change-sets none_in_use u.area u.first l in
      record {
        tree = x.0;
        accepted = x.1;
        stands = r;
        there = there-chosen x.0 (load_of os).left r u.chosen c;
        setting = (found_in u.first).setting;
        first = is-record-so u l;
        set = k;
        choice = refl;
        holds = begun-holds ∙ ap (λ (y : InUse). plain_start (starting_tempo y) []) k;
        reached = refl;
      }

  Kinds : Start → Type 0
  Kinds s = (s.answer ≡ Taken → Begun u (panel_at s)) × ((s.answer ≡ Taken → ⊥) → display_of (panel_at s).core ≡ nothing)

  kinds-is : (a t c : Bool) → is_taken (first-of u).answer ≡ a → is_taken (load_of os).answer ≡ t → has_chosen (load_of os).left u.chosen ≡ c → Kinds (out u a t c)
  unfolding out Kinds start_of no_messages
  kinds-is true true true l e r = ((λ q. begun-is l q r), λ n. absurd (n (taken_is e)))
  kinds-is true true false l e r = ((λ q. absurd (true≢false (sym (ap is_taken q)))), λ n. refl)
  kinds-is true false c l e r = ((λ q. absurd (true≢false (sym (ap is_taken q) ∙ e))), λ n. refl)
  kinds-is false t c l e r = ((λ q. absurd (true≢false (sym (ap is_taken q) ∙ l))), λ n. refl)

  start-taken-is : (a t c : Bool) → is_taken (first-of u).answer ≡ a → is_taken (load_of os).answer ≡ t → is_taken (out u a t c).answer ≡ true → (out u a t c).answer ≡ Taken
  unfolding out start_of
  start-taken-is true true true l e q = taken_is e
  start-taken-is true true false l e q = absurd (true≢false (sym q))
  start-taken-is true false c l e q = absurd (true≢false (sym q ∙ e))
  start-taken-is false t c l e q = absurd (true≢false (sym q ∙ l))

  start-taken : is_taken (starting_of u.orchestra u.area u.first u.chosen).answer ≡ true → (starting_of u.orchestra u.area u.first u.chosen).answer ≡ Taken
  unfolding starting_of out
  start-taken = start-taken-is (is_taken (first-of u).answer) (is_taken (load_of os).answer) (has_chosen (load_of os).left u.chosen) refl refl

  kinds : Kinds (starting_of u.orchestra u.area u.first u.chosen)
  unfolding starting_of out
  kinds = kinds-is (is_taken (first-of u).answer) (is_taken (load_of os).answer) (has_chosen (load_of os).left u.chosen) refl refl refl

-- a start has ended, or its settings are those of the first record, which is valid
pub data Kind (u : Setup) (s : Start) : Type 0 where
  no_start : s.state.playing.ended ≡ true → Kind u s
  starts : s.settings ≡ first_in_use u → Valid (first_in_use u).last → Kind u s

pub start-kind : (u : Setup) → Kind u (starting_of u.orchestra u.area u.first u.chosen)
unfolding starting_of out start_of
start-kind u = go (is_taken (first-of u).answer) (is_taken (load_of u.orchestra).answer) (has_chosen (load_of u.orchestra).left u.chosen) refl
  where
    go : (a t c : Bool) → is_taken (first-of u).answer ≡ a → Kind u (out u a t c)
    go true true true l = starts (change-sets none_in_use u.area u.first l) (change-valid none_in_use u.area u.first l)
    go true true false l = no_start refl
    go true false c l = no_start refl
    go false t c l = no_start refl

-- the lent area
module _ (u : Setup) where
  abbrev start : Start
  start = starting_of u.orchestra u.area u.first u.chosen

  first-first : start.answer ≡ Taken → is_taken (first-of u).answer ≡ true
  unfolding starting_of start_of
  first-first e =
      by-test (is_taken (first-of u).answer) (λ t. t)
      (λ t. absurd (true≢false (sym (ap is_taken e) ∙ ap (λ (s : Start). is_taken s.answer) (cond-false _ _ t) ∙ t)))

  area-written : start.answer ≡ Taken → area_by u ≡ laid_at 0 u.first u.area
  unfolding area_started walked
  area-written e = cond-true _ _ (ap is_taken e) ∙ laid-there none_in_use u.area u.first (first-first e)

  area-unwritten : Bytes u.orchestra → (start.answer ≡ Taken → ⊥) → area_by u ≡ u.area
  unfolding area_started
  area-unwritten bytes n = by-test (is_taken start.answer) (λ t. absurd (n (start-taken u bytes t))) (λ t. cond-false _ _ t)

pub fresh-verdict : FreshVerdict
unfolding Kinds fresh_of
fresh-verdict u bytes =
    record {
      given = number u bytes;
      only = λ n f. first_one (number u bytes) f;
      begun = (kinds u bytes).0;
      written = λ t. area-written u t;
      no_panel = λ n cs. all-ended cs 0 none_yet (fresh_by u).left (ap (λ (d : Display). d.ended) ((kinds u bytes).1 n));
      shown = (kinds u bytes).1;
      unwritten = λ n. area-unwritten u bytes n;
    }
