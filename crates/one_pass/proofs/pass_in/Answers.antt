-- `pass_in` copies out what the pass put into N zeros.
-- What it put stands in the output as it stood in the array.
use lib.ListN.{length-replicate}
use Rattle.placing.proofs.Copies.{wrote}
use Rattle.one_pass.proofs.pass_in.Goals as goal

pub returns : goal.returns
returns g c = wrote g.row.N _ _ _ c.args.output.now _ (length-replicate g.row.N 0) c.pass-passed.result c.copy_out.result c.pass-passed.ensures c.copy_out.ensures
