use Rattle.std.proofs.Common.{◌≡◌, ℕ, min, false, pos, neg_ℤ, sym, ap, ◌∙◌, arith}
use lib.Ieee.{of_bits, neg, mul, to_unsigned, fin, binary32}
use Rattle.base_float32.specs.Limit.{sample_of, held}
use Rattle.base_float32.proofs.Magnitude.{sample-below, sample-above, negates, negated-is, kept-is}
use Rattle.base_float32.proofs.sample.Goals as goal

pub overflow_sub-result : goal.overflow_sub-result
overflow_sub-result c =
    negates c.size-n.result (omega arith)

pub returns-then-y : goal.returns-then-y
unfolding sample_of of_bits
returns-then-y c =
    let limit = c.capped-limit.result in
    let y = mul binary32 c.args.x (fin false 1 (pos 15)) in
    let r : c.size-n.result ≡ min (to_unsigned 64 (neg y)) limit = c.size-n.ensures in
    negated-is c.size-n.result (omega arith)
    ∙ ap (λ (n : ℕ). neg_ℤ (pos n)) r
    ∙ sym (sample-below limit (omega arith) y c.if-y.true)
    ∙ ap (λ (l : ℕ). held l y) c.capped-limit.ensures

pub returns : goal.returns
unfolding sample_of of_bits
returns c =
    let limit = c.capped-limit.result in
    let y = mul binary32 c.args.x (fin false 1 (pos 15)) in
    let r : c.size.result ≡ min (to_unsigned 64 y) limit = c.size.ensures in
    kept-is c.size.result (omega arith)
    ∙ ap pos r
    ∙ sym (sample-above limit (omega arith) y c.if-y.false)
    ∙ ap (λ (l : ℕ). held l y) c.capped-limit.ensures
