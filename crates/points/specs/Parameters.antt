-- Parameters.
use Rattle.std.specs.Prelude.{◌^◌, Bool, ◌||◌, nat_lt}
use Rattle.points.specs.declared.parameter.Parameter.{Parameter}

-- a/2^k is no parameter
abbrev pub off_scale : Parameter → Bool
off_scale t = nat_lt 15 t.k || nat_lt (2 ^ t.k) t.a
