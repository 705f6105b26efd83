use Rattle.std.proofs.Common.{true, refl}
use Rattle.omega_node_laws.proofs.SynthSteps.{inst-done, get-done, inj-done, roll-done, unroll-done}
use Rattle.omega_node_laws.proofs.BinderSteps.{function-done, lam-done, let-done, call-let, applied-done, call-applied, ty_lam-done, pack-done, unpack-done}
use Rattle.omega_node_laws.proofs.BinderSteps.{if-done, arith-done}
use Rattle.omega_node_laws.proofs.BranchSteps.{fix-done, case-done}
use Rattle.omega_node_laws.proofs.WholeSteps.{leaf-done, record-done, no-branch, branch-more}
use Rattle.omega_node_laws.proofs.steps.Goals as goal

pub returns-clause-leaf : goal.returns-clause-leaf
returns-clause-leaf g z c = leaf-done

pub returns-clause-function : goal.returns-clause-function
returns-clause-function g a b c e f o p = function-done

pub returns-clause-fields : goal.returns-clause-fields
returns-clause-fields g z y c xs parts n = record-done

pub returns-clause-no_branch : goal.returns-clause-no_branch
returns-clause-no_branch g = no-branch

pub returns-clause-branch : goal.returns-clause-branch
returns-clause-branch g = branch-more

pub returns-clause-lam : goal.returns-clause-lam
returns-clause-lam g z a c t e f o p = lam-done

pub returns-clause-let_ : goal.returns-clause-let_
returns-clause-let_ g z x y c t e a n f o q p r s i h j k l m = call-let refl s i (let-done h j k l m)

pub returns-clause-call : goal.returns-clause-call
returns-clause-call g z x c f a n o p r other s i h k m = call-applied other s i (applied-done h k m)

pub returns-clause-ty_lam : goal.returns-clause-ty_lam
returns-clause-ty_lam g z y c k e o p = ty_lam-done

pub returns-clause-inst : goal.returns-clause-inst
returns-clause-inst g z y c e t o p s = inst-done z y c e o p s t

pub returns-clause-get : goal.returns-clause-get
returns-clause-get g z y c e l o p s = get-done z y c e o p s l

pub returns-clause-pack : goal.returns-clause-pack
returns-clause-pack g z x c t u e b o r = pack-done

pub returns-clause-unpack : goal.returns-clause-unpack
returns-clause-unpack g z x y c p e k b o q r = unpack-done k b

pub returns-clause-if_ : goal.returns-clause-if_
returns-clause-if_ d z a b y c e f g o p q r = if-done

pub returns-clause-arith : goal.returns-clause-arith
returns-clause-arith g z b y c op e f o p r = arith-done

pub returns-clause-fix : goal.returns-clause-fix
returns-clause-fix d z x y w c t u e f g h o p r a ao b bo l k m s = fix-done z x y w c t u e o p r f g h a ao b bo l k m s

pub returns-clause-inj : goal.returns-clause-inj
returns-clause-inj g z x y c l e t m o p a b = inj-done z x y c e t m o p a b l

pub returns-clause-case : goal.returns-clause-case
returns-clause-case g z x y c e t row n m parts o p a s ao so l k b = case-done z x y t e row o p a s n m ao so l c parts true k b refl

pub returns-clause-roll : goal.returns-clause-roll
returns-clause-roll g z x y c e t m o p a b = roll-done z x y c e t m o p a b

pub returns-clause-unroll : goal.returns-clause-unroll
returns-clause-unroll g z y c e o p s = unroll-done z y c e o p s
