-- What an opened file means as a source.
use Rattle.std.specs.Prelude.{min, map}
use Rattle.pathformat.specs.Reading.{Read, took, bad}
use Rattle.pathformat.specs.File.{File, point_of}
use Rattle.sources.specs.Meaning.{Meaning, fails, in_memory}

-- The points and the allowance of the file that it says; a value that says no file means the fault of reading it. The allowance is a number of 16 bits, so
-- its bound changes nothing.
abbrev pub filed : Read File → Meaning
filed (took f r) = in_memory (map point_of f.points) (min f.allowance 65535)
filed (bad e) = fails e
