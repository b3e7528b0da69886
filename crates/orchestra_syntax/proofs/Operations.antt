-- Every operator's operation is a value to the passes over a program.
use mathlib.Core.Path.{◌≡◌, refl}
use Rattle.orchestra_signs.specs.Operators.{Unary, Binary}
use Rattle.orchestra_syntax.specs.inside.Program.{op_class_of, unary_op, binary_op}
use Rattle.orchestra_syntax.specs.declared.OpClass.TheVariants.{Value}

pub unary-value : (o : Unary) → op_class_of (unary_op o) ≡ Value
unary-value Unary.absolute = refl
unary-value Unary.signum = refl
unary-value Unary.whole = refl
unary-value Unary.fraction = refl
unary-value Unary.not = refl
unary-value Unary.negative = refl

pub binary-value : (o : Binary) → op_class_of (binary_op o) ≡ Value
binary-value Binary.least = refl
binary-value Binary.greatest = refl
binary-value Binary.or = refl
binary-value Binary.and = refl
binary-value Binary.equal = refl
binary-value Binary.unequal = refl
binary-value Binary.less = refl
binary-value Binary.greater = refl
binary-value Binary.at_most = refl
binary-value Binary.at_least = refl
binary-value Binary.plus = refl
binary-value Binary.minus = refl
binary-value Binary.times = refl
binary-value Binary.over = refl
