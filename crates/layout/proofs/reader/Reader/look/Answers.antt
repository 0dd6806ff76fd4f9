use Rattle.std.proofs.Common.{arith}
use Rattle.layout.proofs.Looks.{told}
use Rattle.layout.proofs.reader.Reader.look.Goals as goal

pub returns-then-left-ge16 : goal.returns-then-left-ge16
returns-then-left-ge16 c =
    told c.args.self.now.src.now c.args.at c.args.width 16 c.of_16.result c.requires c.if-width-le16.true (omega arith)
    c.of_16.ensures

pub returns-then-left-ge32 : goal.returns-then-left-ge32
returns-then-left-ge32 c =
    told c.args.self.now.src.now c.args.at c.args.width 32 c.of_32.result c.requires c.if-width-le32.true
    c.if-width-le32.true c.of_32.ensures
