-- Laws for the loops and the notes, one for each way through the code.
use mathlib.Core.Path.{◌≡◌, refl, sym, ap, ◌∙◌, subst, subst⁻¹}
use mathlib.Core.Bool.{true, false, ◌&&◌}
use mathlib.Core.List.{List, [], ◌∷◌, ◌++◌, append-nil}
use Prim.Native.Nat.{ℕ, zero, suc, ◌+◌, ◌-◌, ◌≤◌, ◌<◌}
use native.Mathlib.Omega.{arith}
use native.Mathlib.Decide.{dec_le}
use native.Mathlib.Numerals.{add-one}
use native.Mathlib.Nat.{le_of_suc-le-suc}
use lib.ListN.{length, take, drop, get_or, set, length-set, take-append-drop}
use lib.Seq.{take-suc, take-suc-set, take_at, drop-drop, drop-length, drop-set-lt, take_all, take-take, take-set-lt, length-take-le, get_or-take}
pub use Rattle.player_model.proofs.Lists.{length-each}
use Rattle.player_model.specs.Lists.{each, over, All}
use Rattle.player_model.specs.Cycle.{can_cut, cut_oldest, joined_by, release_oldest}
use Rattle.player_model.specs.Cycle as cycle
use Rattle.player_model.proofs.Lists.{cond-true, cond-false, all_append}
use Rattle.player_model.proofs.Loops.{over-set}
use Rattle.player_model.proofs.Results.{join-room, join-cut, join-miss}
use Rattle.note_state.specs.Notes.{release}
use Rattle.note_state.specs.declared.Note.{Note}
use Rattle.voices_compiled.specs.Voices.{VoiceState}
use Rattle.note_pool.specs.Notes.{notes_in, started_in, started_over}
use Rattle.note_lifecycle.specs.OneNote.{note_of, struct_of, is_held_in}
use Rattle.note_pool.specs.Started.{StartedBy}
use Rattle.note_pool.specs.declared.Started.{Started}

-- ---- each

pub each_append : {A B : Type 0} (f : A → B) (xs ys : List A) → each f (xs ++ ys) ≡ each f xs ++ each f ys
unfolding each
each_append f [] ys = refl
each_append {A} {B} f (x ∷ xs) ys = ap (λ (l : List B). f x ∷ l) (each_append f xs ys)

pub each-one : {A B : Type 0} (f : A → B) (x : A) → each f (x ∷ []) ≡ f x ∷ []
unfolding each
each-one f x = refl

-- ---- one note more

module _ (ns : List Note) (k m : ℕ) (x : Note) (long : length ns ≡ 16) where
  count-in : k ≤ 16 → length (notes_in ns k) ≡ k
  count-in h = length-each note_of (take k ns) ∙ length-take-le k ns (omega arith)

  pub room : (most : ℕ) → k < most → k < 16 → started_in (set ns k x) (k + 1) m ≡ joined_by most (started_in ns k m) (note_of x)
  room most l h =
      let c = count-in (omega arith) in
      let q : notes_in (set ns k x) (k + 1) ≡ notes_in ns k ++ (note_of x ∷ []) =
      rw (add-one, take-suc-set ns k x (omega arith)) (each_append note_of (take k ns) (x ∷ []) ∙ ap (λ (l : List (cycle.Note VoiceState)). notes_in ns k ++ l) (each-one note_of x)) in
      ap (λ (l : List (cycle.Note VoiceState)). record { notes = l; missed = m }) q
      ∙ sym (join-room most (started_in ns k m) (note_of x) (omega (arith, c)))

  pub full : (most : ℕ) → most ≤ k → k ≤ 16 → (x.priority && can_cut (notes_in ns k)) ≡ false → started_in ns k (m + 1) ≡ joined_by most (started_in ns k m) (note_of x)
  full most h g e = let c = count-in g in sym (join-miss most (started_in ns k m) (note_of x) (omega (arith, c)) e)

  pub cut : (most : ℕ) → most ≤ k → k ≤ 16 → x.priority ≡ true → can_cut (notes_in ns k) ≡ true
      → record { notes = cut_oldest (notes_in ns k) ++ (note_of x ∷ []); missed = m + 1 } ≡ joined_by most (started_in ns k m) (note_of x)
  cut most h g p e = let c = count-in g in sym (join-cut most (started_in ns k m) (note_of x) (omega (arith, c)) p e)

-- ---- notes laid over an array

pub drop_more : {A : Type 0} (xs ys : List A) (a b : ℕ) → a ≤ b → drop a xs ≡ drop a ys → drop b xs ≡ drop b ys
drop_more {A} xs ys a b h e =
    let n : a + (b - a) ≡ b = omega arith in
    ap (λ (k : ℕ). drop k xs) (sym n) ∙ sym (drop-drop (b - a) a xs) ∙ ap (drop (b - a)) e ∙ drop-drop (b - a) a ys ∙ ap (λ (k : ℕ). drop k ys) n

pub over-self : {A : Type 0} (k : ℕ) (l : List A) → l ≡ over (take k l) l
over-self {A} k l = go (dec_le k (length l))
  where
    go : Dec (k ≤ length l) → l ≡ over (take k l) l
    go (yes h) = sym (ap (λ (n : ℕ). take k l ++ drop n l) (length-take-le k l h) ∙ take-append-drop k l)
    go (no h) =
        let e : take k l ≡ l = take_all k l (omega arith) in
        sym (ap (λ (x : List A). x ++ drop (length x) l) e ∙ ap (λ (x : List A). l ++ x) (drop-length l) ∙ append-nil l)

-- what was laid over the first k, by that number
pub take-laid : {A : Type 0} (xs old : List A) (k : ℕ) → length xs ≡ length (take k old) → take k (over xs old) ≡ xs
take-laid {A} xs old k e = go (dec_le k (length old))
  where
    go : Dec (k ≤ length old) → take k (over xs old) ≡ xs
    go (yes h) = take_at xs (drop (length xs) old) k (e ∙ length-take-le k old h)
    go (no h) =
        let n : length xs ≡ length old = e ∙ ap length (take_all k old (omega arith)) in
        ap (λ (m : ℕ). take k (xs ++ drop m old)) n ∙ ap (λ (x : List A). take k (xs ++ x)) (drop-length old)
        ∙ ap (take k) (append-nil xs) ∙ take_all k xs (omega arith)

-- one more of an array's elements made into another
pub each_over : {A : Type 0} (g : A → A) (l a : List A) (i : ℕ) (d y : A) → i < length l
    → a ≡ over (each g (take i l)) l → y ≡ g (get_or l i d) → set a i y ≡ over (each g (take (i + 1) l)) l
each_over {A} g l a i d y h p q =
    let x = get_or l i d in
    let n : length (each g (take i l)) ≡ i = length-each g (take i l) ∙ length-take-le i l (omega arith) in
    let e : each g (take (i + 1) l) ≡ each g (take i l) ++ (g x ∷ []) =
    ap (each g) (ap (λ (m : ℕ). take m l) (add-one i) ∙ take-suc l i d h) ∙ each_append g (take i l) (x ∷ [])
    ∙ ap (λ (t : List A). each g (take i l) ++ t) (each-one g x) in
    (λ j. set (p j) i (q j))
    ∙ subst (λ (m : ℕ). set (over (each g (take i l)) l) m (g x) ≡ over (each g (take i l) ++ (g x ∷ [])) l) n
    (over-set (each g (take i l)) l (g x) (omega (arith, n)))
    ∙ ap (λ (t : List A). over t l) (sym e)

pub struct-note : (ns : List Note) → each struct_of (each note_of ns) ≡ ns
unfolding each
struct-note [] = refl
struct-note (n ∷ ns) = ap (λ (l : List Note). n ∷ l) (struct-note ns)

note-struct : (ns : List (cycle.Note VoiceState)) → each note_of (each struct_of ns) ≡ ns
unfolding each
note-struct [] = refl
note-struct (n ∷ ns) = ap (λ (l : List (cycle.Note VoiceState)). n ∷ l) (note-struct ns)

pub notes-laid : (xs : List (cycle.Note VoiceState)) (old : List Note) (k : ℕ) → length xs ≡ length (take k old)
    → notes_in (over (each struct_of xs) old) k ≡ xs
notes-laid xs old k e = ap (each note_of) (take-laid (each struct_of xs) old k (length-each struct_of xs ∙ e)) ∙ note-struct xs

-- the first k notes of an array, and behind them what was there, are those notes laid over it
pub laid-notes : (ns old : List Note) (k : ℕ) (xs : List (cycle.Note VoiceState)) → k ≤ length ns → notes_in ns k ≡ xs → drop k ns ≡ drop k old
    → (k ≡ length xs) × (ns ≡ over (each struct_of xs) old)
laid-notes ns old k xs h e b =
    let n : length (take k ns) ≡ k = length-take-le k ns h in
    let ts : take k ns ≡ each struct_of xs = sym (struct-note (take k ns)) ∙ ap (each struct_of) e in (
      sym (sym (ap length ts ∙ length-each struct_of xs) ∙ n),
      sym (take-append-drop k ns) ∙ ap (λ (l : List Note). take k ns ++ l) (b ∙ ap (λ (m : ℕ). drop m old) (sym n)) ∙ ap (λ (l : List Note). over l old) ts,
    )

-- ---- what a due line starts

pub start_none : (v : Started) → v.count ≤ 16 → StartedBy (started_in v.notes v.count v.missed) v v
start_none v h = record { are = refl; room = h; more = omega arith; few = omega arith; long = refl; behind = refl }

module _ (most : ℕ) (s : cycle.Started VoiceState) (v r : Started) (n : Note) (long : length v.notes ≡ 16) where
  pub start-room : v.count < most → most ≤ 16 → (r.notes ≡ set v.notes v.count n) × (r.count ≡ v.count + 1) × (r.missed ≡ v.missed)
      → joined_by most (started_in v.notes v.count v.missed) (note_of n) ≡ s → StartedBy s v r
  start-room l b e q =
      let h : v.count < 16 = omega arith in
      record {
        are = (λ i. started_in (e.0 i) (e.1 i) (e.2 i)) ∙ room v.notes v.count v.missed n long most l h ∙ q;
        room = omega (arith, e.1);
        more = omega (arith, e.1);
        few = omega (arith, e.2);
        long = ap length e.0 ∙ length-set v.notes v.count n;
        behind = ap (drop r.count) e.0 ∙ drop-set-lt r.count v.notes v.count n (omega (arith, e.1));
      }

  pub start-full : most ≤ v.count → v.count ≤ 16 → (r.notes ≡ v.notes) × (r.count ≡ v.count) × (r.missed ≡ v.missed + 1)
      → joined_by most (started_in v.notes v.count v.missed) (note_of n) ≡ s
      → (n.priority && can_cut (notes_in v.notes v.count)) ≡ false → StartedBy s v r
  start-full h g e q f =
      record {
        are = (λ i. started_in (e.0 i) (e.1 i) (e.2 i)) ∙ full v.notes v.count v.missed n long most h g f ∙ q;
        room = omega (arith, e.1);
        more = omega (arith, e.1);
        few = omega (arith, e.2);
        long = ap length e.0;
        behind = ap (drop r.count) e.0;
      }

-- ---- what a note-off marks

module _ (channel key : ℕ) where
  abbrev pub Unheld : List Note → Type 0
  Unheld ns = All (λ (n : Note). is_held_in channel key n ≡ false) ns

  pub unheld-more : (l : List Note) (i : ℕ) (d : Note) → i < length l → Unheld (take i l) → is_held_in channel key (get_or l i d) ≡ false → Unheld (take (i + 1) l)
  unheld-more l i d h u e =
      subst⁻¹ Unheld (ap (λ (n : ℕ). take n l) (add-one i) ∙ take-suc l i d h) (all_append _ (take i l) (get_or l i d ∷ []) u (e, tt))

  mark-at : (ns : List Note) (i : ℕ) (d : Note) → i < length ns → Unheld (take i ns) → is_held_in channel key (get_or ns i d) ≡ true
      → each note_of (set ns i (release (get_or ns i d))) ≡ release_oldest channel key (each note_of ns)
  unfolding each release_oldest
  mark-at [] i d h u e = absurd (omega arith)
  mark-at (n ∷ ns) zero d h u e = sym (cond-true _ _ e)
  mark-at (n ∷ ns) (suc i) d h u e =
      ap (λ (l : List (cycle.Note VoiceState)). note_of n ∷ l) (mark-at ns i d (le_of_suc-le-suc h) u.1 e) ∙ sym (cond-false _ _ u.0)

  mark-none : (ns : List Note) → Unheld ns → each note_of ns ≡ release_oldest channel key (each note_of ns)
  unfolding each release_oldest
  mark-none [] u = refl
  mark-none (n ∷ ns) u = ap (λ (l : List (cycle.Note VoiceState)). note_of n ∷ l) (mark-none ns u.1) ∙ sym (cond-false _ _ u.0)

  module _ (v : Started) (room : v.count ≤ 16) (long : length v.notes ≡ 16) where
    abbrev marked : cycle.Started VoiceState
    marked = record { notes = release_oldest channel key (notes_in v.notes v.count); missed = v.missed }

    pub marks-one : (i : ℕ) (d : Note) → i < v.count → Unheld (take i v.notes) → is_held_in channel key (get_or v.notes i d) ≡ true
        → (y : Note) → y ≡ release (get_or v.notes i d) → StartedBy marked v (record { notes = set v.notes i y; count = v.count; missed = v.missed })
    marks-one i d h u e y q =
        let ns = take v.count v.notes in
        let n : length ns ≡ v.count = length-take-le v.count v.notes (omega arith) in
        let g : get_or ns i d ≡ get_or v.notes i d = get_or-take v.count v.notes i d h in
        let x : each note_of (take v.count (set v.notes i y)) ≡ release_oldest channel key (each note_of ns) =
        ap (each note_of) (take-set-lt v.count v.notes i y h ∙ ap (set ns i) (q ∙ ap release (sym g)))
        ∙ mark-at ns i d (omega (arith, n)) (subst⁻¹ Unheld (take-take i v.count v.notes (omega arith)) u) (ap (is_held_in channel key) g ∙ e) in
        record {
          are = ap (λ (l : List (cycle.Note VoiceState)). record { notes = l; missed = v.missed }) x;
          room = room;
          more = omega arith;
          few = omega arith;
          long = length-set v.notes i y;
          behind = drop-set-lt v.count v.notes i y h;
        }

    pub marks-none : (i : ℕ) → v.count ≤ i → Unheld (take i v.notes) → i ≤ v.count → StartedBy marked v v
    marks-none i h u g =
        let e : i ≡ v.count = omega arith in
        record {
          are = ap (λ (l : List (cycle.Note VoiceState)). record { notes = l; missed = v.missed }) (mark-none (take v.count v.notes) (subst (λ (n : ℕ). Unheld (take n v.notes)) e u));
          room = room;
          more = omega arith;
          few = omega arith;
          long = refl;
          behind = refl;
        }

-- the notes that sound after some lines
pub record Starting (s : cycle.Started VoiceState) (old : List Note) (v : Started) : Type 0 where
  pub are : started_in v.notes v.count v.missed ≡ s
  pub room : v.count ≤ 16
  pub long : length v.notes ≡ 16
  pub behind : drop v.count v.notes ≡ drop v.count old

pub starting-none : (v : Started) → length v.notes ≡ 16 → v.count ≤ 16
    → Starting (started_in v.notes v.count v.missed) v.notes v
starting-none v long room = record { are = refl; room = room; long = long; behind = refl }

pub starting-step : (f : cycle.Started VoiceState → cycle.Started VoiceState) (s s' : cycle.Started VoiceState) (old : List Note) (v r : Started)
    → s' ≡ f s → Starting s old v → StartedBy (f (started_in v.notes v.count v.missed)) v r → Starting s' old r
starting-step f s s' old v r e p b =
    record {
      are = b.are ∙ ap f p.are ∙ sym e;
      room = b.room;
      long = b.long ∙ p.long;
      behind = b.behind ∙ drop_more v.notes old v.count r.count b.more p.behind;
    }

pub starting-end : (s : cycle.Started VoiceState) (old : List Note) (v : Started) → Starting s old v → v ≡ started_over s old
unfolding started_over
starting-end s old v p =
    let l = laid-notes v.notes old v.count s.notes (omega (arith, p.long, p.room)) (ap (λ (x : cycle.Started VoiceState). x.notes) p.are) p.behind in
    λ i. record { notes = l.1 i; count = l.0 i; missed = (p.are i).missed }

-- ---- for callers

pub started-are : (s : cycle.Started VoiceState) (old : List Note) (r : Started) → r ≡ started_over s old → started_in r.notes r.count r.missed ≡ s
unfolding started_over
started-are s old r e =
    ap (λ (x : Started). started_in x.notes x.count x.missed) e
    ∙ ap (λ (ns : List (cycle.Note VoiceState)). record { notes = ns; missed = s.missed })
    (ap (each note_of) (take_at (each struct_of s.notes) _ (length s.notes) (length-each struct_of s.notes)) ∙ note-struct s.notes)
