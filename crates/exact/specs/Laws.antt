-- What the mathematics of the kernel says, on one axis.
use Rattle.exact.specs.Accuracy.{Accurate, Enclosed}

pub record Laws : Type 0 where
  pub accurate : Accurate
  pub enclosed : Enclosed
