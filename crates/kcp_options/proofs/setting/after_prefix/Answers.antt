use Rattle.kcp_options.proofs.Prefixes.{strips}
use Rattle.kcp_options.proofs.setting.after_prefix.Goals as goal

pub returns : goal.returns
returns c = strips c.args.beginning.now c.args.text.now c.strip_prefix.result c.strip_prefix.ensures.cases
