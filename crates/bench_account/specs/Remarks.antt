-- What a person is told where nothing came of what was asked. Assumes nothing.
use Rattle.std.specs.Prelude.{ℕ, List, codes}
use Rattle.bench_account.specs.declared.remark.Remark.{Remark}
use Rattle.bench_account.specs.declared.remark.Remark.TheVariants as remark

abbrev pub remark_of : Remark → List ℕ
remark_of remark.NothingUnderWay = codes "nothing is under way"
remark_of remark.NoneCame = codes "no such message has come"
remark_of remark.NotLevel = codes "not level: no more comes of its downloads"
