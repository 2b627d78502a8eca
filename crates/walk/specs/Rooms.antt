-- Which observations are writes: each may be followed by an UP and, at every other tablet, by a DOWN.
use Rattle.std.specs.Prelude.{Bool, true, false}
use Rattle.model.specs.declared.Observation.{Observation}
use Rattle.model.specs.declared.Observation.TheVariants.{Read, Write, Stabilize, Failed}

-- an observation is a WRITE
abbrev pub is_write : Observation → Bool
is_write (Read t x) = false
is_write (Write t y x) = true
is_write (Stabilize x c) = false
is_write Failed = false
