use Rattle.width_table.specs.Numbered.{pass_of}
use Rattle.fixed_stages.specs.KernelLaws.{stages_kernel}
use Rattle.fixed_stages.proofs.kernel_of.Goals as goal

pub returns : goal.returns
returns c =
    let a = c.args in
    stages_kernel a.table a.level (pass_of a.pass) c.stages_of.result c.stages_of.ensures
