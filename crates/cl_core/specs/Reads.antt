-- What a piece makes of a client.
use Rattle.std.specs.Prelude.{◌≡◌, map}
use Rattle.resp_read.specs.Frames.{commands_in}
use Rattle.resp_read.specs.Reading.{Reading, Unfinished, Broken}
use Rattle.cl_core.specs.declared.client.Fed.{Fed}
use Rattle.cl_core.specs.declared.client.Fed.TheVariants as fed

-- a piece made this of a client whose bytes with it read so
abbrev pub IsFed : Fed → Reading → Type 0
IsFed (fed.Open client commands) (Unfinished forms rest) = (map (λ c. c.words) commands ≡ commands_in forms)
    × (client ≡ rest)
IsFed (fed.Open client commands) (Broken forms place kind) = ⊥
IsFed (fed.Broken commands kind) (Unfinished forms rest) = ⊥
IsFed (fed.Broken commands kind) (Broken forms place due) = (map (λ c. c.words) commands ≡ commands_in forms)
    × (kind ≡ due)
