-- What a sink that grows shows.
use Rattle.std.specs.Prelude.{ℕ, List}
use Rattle.frames.specs.declared.growing_sink.GrowingSink.{GrowingSink}

-- the bytes that it has received
abbrev pub received : GrowingSink → List ℕ
received sink = sink.bytes.items

-- how many of its calls have failed
abbrev pub faults_of : GrowingSink → ℕ
faults_of sink = sink.refusals
