use Rattle.verbs.proofs.accepting.accept.Goals as goal

pub returns-in-Get : goal.returns-in-Get
returns-in-Get c = rw c.in-Get.is (c.get.ensures c.args.moment)

pub returns-in-List : goal.returns-in-List
returns-in-List c = rw c.in-List.is (c.list.ensures c.args.moment)

pub returns-in-Update : goal.returns-in-Update
returns-in-Update c = rw c.in-Update.is (c.update.ensures c.args.moment)

pub returns-in-UpdateStatus : goal.returns-in-UpdateStatus
returns-in-UpdateStatus c = rw c.in-UpdateStatus.is (c.update_status.ensures c.args.moment)

pub returns-in-Patch : goal.returns-in-Patch
returns-in-Patch c = rw c.in-Patch.is (c.patch.ensures c.args.moment)
