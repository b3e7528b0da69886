-- No tokens have two trees: the code of a tree determines the tree, since an operation's number says which operator it is.
use Rattle.std.proofs.Common.{◌≡◌, ℕ, cond, eqb, List, [], ◌∷◌, ◌++◌, get_or, drop, refl, ap, ◌∙◌, append_assoc, append-nil}
use Rattle.orchestra_tokens.specs.declared.Token.{Token}
use Rattle.orchestra_signs.specs.Operators as O
use Rattle.orchestra_syntax.specs.Tree.{Expr, number, name, unary, binary, choose, Statements, done, assign, output, branch}
use Rattle.orchestra_syntax.specs.inside.Program.{Ins, ins, ins_arg, zero_f, name_op, number_op, output_op, if_op, else_op, end_op, store_op, choose_op, unary_op, binary_op, compile, code}
use Rattle.orchestra_syntax.specs.Grammar.{Derives}
use Rattle.orchestra_expressions.proofs.Complete.{complete}

-- code read back as trees: on a stack of expressions, top first, up to each else and each end of an if

abbrev at : List Expr → ℕ → Expr
at s i = get_or s i (number zero_f)

abbrev block : List Statements → ℕ → Statements
block xs i = get_or xs i done

-- what stands first at a number
abbrev first : ℕ → List (ℕ × List Statements) → List Statements
first o [] = []
first o (x ∷ l) = cond (eqb o x.0) x.1 (first o l)

module _ (k : List Expr → List Statements) (s : List Expr) where
  abbrev one·side : O.Unary → List Statements
  one·side o = k (unary o (at s 0) ∷ drop 1 s)

  abbrev two·sides : O.Binary → List Statements
  two·sides o = k (binary o (at s 1) (at s 0) ∷ drop 2 s)

  abbrev one·operand : O.Unary → ℕ × List Statements
  one·operand o = (unary_op o, one·side o)

  abbrev two·operands : O.Binary → ℕ × List Statements
  two·operands o = (binary_op o, two·sides o)

  -- an operation's number says which it is
  abbrev by : Ins → List Statements
  by i =
      first i.op
      ((number_op, k (number i.val ∷ s)) ∷ (name_op, k (name i.arg ∷ s)) ∷ (choose_op, k (choose (at s 2) (at s 1) (at s 0) ∷ drop 3 s))
      ∷ (store_op, assign i.arg (at s 0) (block (k []) 0) ∷ drop 1 (k [])) ∷ (output_op, output (at s 0) (block (k []) 0) ∷ drop 1 (k []))
      ∷ (if_op, branch (at s 0) (block (k []) 0) (block (k []) 1) (block (k []) 2) ∷ drop 3 (k [])) ∷ (else_op, done ∷ k []) ∷ (end_op, done ∷ k [])
      ∷ one·operand O.absolute ∷ one·operand O.signum ∷ one·operand O.whole ∷ one·operand O.fraction ∷ one·operand O.negative ∷ one·operand O.not
      ∷ two·operands O.least ∷ two·operands O.greatest ∷ two·operands O.or ∷ two·operands O.and ∷ two·operands O.equal ∷ two·operands O.unequal ∷ two·operands O.less
      ∷ two·operands O.greater ∷ two·operands O.at_most ∷ two·operands O.at_least ∷ two·operands O.plus ∷ two·operands O.minus ∷ two·operands O.times
      ∷ two·operands O.over ∷ [])

  by-unary : (o : O.Unary) → by (ins (unary_op o)) ≡ one·side o
  by-unary O.Unary.absolute = refl
  by-unary O.Unary.signum = refl
  by-unary O.Unary.whole = refl
  by-unary O.Unary.fraction = refl
  by-unary O.Unary.not = refl
  by-unary O.Unary.negative = refl

  by-binary : (o : O.Binary) → by (ins (binary_op o)) ≡ two·sides o
  by-binary O.Binary.least = refl
  by-binary O.Binary.greatest = refl
  by-binary O.Binary.or = refl
  by-binary O.Binary.and = refl
  by-binary O.Binary.equal = refl
  by-binary O.Binary.unequal = refl
  by-binary O.Binary.less = refl
  by-binary O.Binary.greater = refl
  by-binary O.Binary.at_most = refl
  by-binary O.Binary.at_least = refl
  by-binary O.Binary.plus = refl
  by-binary O.Binary.minus = refl
  by-binary O.Binary.times = refl
  by-binary O.Binary.over = refl

unfoldable trees : List Ins → List Expr → List Statements
trees [] s = done ∷ []
trees (i ∷ c) s = by (trees c) s i

trees-compile : (e : Expr) (c : List Ins) (s : List Expr) → trees (compile e ++ c) s ≡ trees c (e ∷ s)
unfolding compile trees
trees-compile (number x) c s = refl
trees-compile (name n) c s = refl
trees-compile (unary o e) c s = simp append_assoc (trees-compile e (ins (unary_op o) ∷ c) s ∙ by-unary (trees c) (e ∷ s) o)
trees-compile (binary o a b) c s =
    simp append_assoc
    (trees-compile a (compile b ++ ins (binary_op o) ∷ c) s ∙ trees-compile b (ins (binary_op o) ∷ c) (a ∷ s) ∙ by-binary (trees c) (b ∷ a ∷ s) o)
trees-compile (choose t a b) c s =
    simp append_assoc
    (trees-compile t (compile a ++ (compile b ++ ins choose_op ∷ c)) s ∙ trees-compile a (compile b ++ ins choose_op ∷ c) (t ∷ s)
    ∙ trees-compile b (ins choose_op ∷ c) (a ∷ t ∷ s))

trees-code : (t : Statements) (c : List Ins) (xs : List Statements) → trees c [] ≡ done ∷ xs → trees (code t ++ c) [] ≡ t ∷ xs
unfolding code trees
trees-code done c xs h = h
trees-code (assign n e r) c xs h = simp append_assoc (trees-compile e (ins_arg store_op n ∷ (code r ++ c)) [] ∙ rw (trees-code r c xs h))
trees-code (output e r) c xs h = simp append_assoc (trees-compile e (ins output_op ∷ (code r ++ c)) [] ∙ rw (trees-code r c xs h))
trees-code (branch e a b r) c xs h =
    let i = ins end_op ∷ (code r ++ c) in
    let j = ins else_op ∷ (code b ++ i) in
    let x = trees-code b i (r ∷ xs) (ap (λ l. done ∷ l) (trees-code r c xs h)) in
    simp append_assoc (trees-compile e (ins if_op ∷ (code a ++ j)) [] ∙ rw (trees-code a j (b ∷ r ∷ xs) (ap (λ l. done ∷ l) x)))

-- two blocks of the same code are one
pub code-unique : (t u : Statements) → code t ≡ code u → t ≡ u
unfolding trees
code-unique t u h =
    let x = simp append-nil at (trees-code t [] [] refl) in
    let y = simp append-nil at (trees-code u [] [] refl) in
    cc

pub unique : {e f : Expr} {ts : List Token} → Derives 0 e ts → Derives 0 f ts → e ≡ f
unfolding code
unique {e} {f} d g =
    let x = complete d [] tt in
    let y = complete g [] tt in
    let z : code (output e done) ≡ code (output f done) = cc in
    let w = code-unique (output e done) (output f done) z in
    cc
