-- How the reports that came are counted; a count stays at the largest number of 64 bits. Assumes nothing.
use Rattle.bench_play.specs.declared.came.Came.{Came}
use Rattle.bench_account.specs.Accounts.{more}
use Rattle.follower.specs.declared.answer.Live.{Live}
use Rattle.follower.specs.declared.answer.Live.TheVariants as live
use Rattle.follower.specs.declared.answer.Recovered.{Recovered}
use Rattle.follower.specs.declared.answer.Recovered.TheVariants as recovered

abbrev pub none_came : Came
none_came = record { held = 0; folded = 0; again = 0 }

abbrev pub with_live : Came → Live → Came
with_live c live.Held = record c { held = more c.held }
with_live c live.Folded = record c { folded = more c.folded }
with_live c live.Already = record c { again = more c.again }
with_live c live.Passed = c
with_live c live.Nothing = c

abbrev pub with_recovered : Came → Recovered → Came
with_recovered c recovered.Folded = record c { folded = more c.folded }
with_recovered c recovered.Already = record c { again = more c.again }
with_recovered c recovered.Begun = c
with_recovered c recovered.Ended = c
with_recovered c recovered.Nothing = c
