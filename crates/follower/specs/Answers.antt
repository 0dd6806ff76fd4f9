-- The answers of a follower, each by its word. Assumes nothing.
use Rattle.std.specs.Prelude.{ℕ, List, codes}
use Rattle.follower.specs.declared.answer.Live.{Live}
use Rattle.follower.specs.declared.answer.Live.TheVariants as live
use Rattle.follower.specs.declared.answer.Recovered.{Recovered}
use Rattle.follower.specs.declared.answer.Recovered.TheVariants as recovered

abbrev pub live_text : Live → List ℕ
live_text live.Already = codes "already"
live_text live.Folded = codes "folded"
live_text live.Held = codes "held"
live_text live.Passed = codes "passed"
live_text live.Nothing = codes "nothing"

abbrev pub recovered_text : Recovered → List ℕ
recovered_text recovered.Begun = codes "begun"
recovered_text recovered.Ended = codes "ended"
recovered_text recovered.Already = codes "already"
recovered_text recovered.Folded = codes "folded"
recovered_text recovered.Nothing = codes "nothing"
