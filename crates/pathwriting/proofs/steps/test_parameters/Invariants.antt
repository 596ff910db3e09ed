use Rattle.std.proofs.Common.{◌≡◌, drop}
use Rattle.pathwriting.specs.Steps.{parameters_test}
use Rattle.pathwriting.proofs.steps.test_parameters.Given as goal

-- the workings so far have passed, so the rest decides
abbrev pub invariant-loop-w : goal.invariant-loop-w
invariant-loop-w l = parameters_test l.workings ≡ parameters_test (drop l.w-index l.workings)
