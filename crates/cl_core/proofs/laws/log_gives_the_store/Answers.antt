use Rattle.cl_core.proofs.ReplayLaws.{log_leads, groups_made}
use Rattle.cl_core.proofs.laws.log_gives_the_store.Goals as goal

pub returns : goal.returns
returns c =
    let kept = c.commands_keep_the_world.ensures in
    record {
      leads = log_leads;
      groups = groups_made c.purge_removes_the_keys_past_their_deadline.ensures.listed kept.begun kept.command
          kept.records;
    }
