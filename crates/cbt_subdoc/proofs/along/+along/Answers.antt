use Rattle.std.proofs.Common.{◌∙◌, ap, sym, Some, None, Err}
use Rattle.std.proofs.lemmas.Result.{err_from_is_err_and}
use Rattle.cbt_subdoc.specs.Members.{member, seat}
use Rattle.cbt_subdoc.specs.Along.{slot_changed, in_object}
use Rattle.cbt_subdoc.proofs.Seats.{seat-Ok, seat-Err}
use Rattle.cbt_subdoc.proofs.Slots.{member_put, member_stuck, member_added, member_not_added, item_put, refused_along}
use Rattle.cbt_subdoc.proofs.along.+along.Goals as goal

pub change_item-returns : goal.change_item-returns
change_item-returns t c =
    item_put (slot_changed c.args.edit c.args.path.now) c.args.items c.replace-child.new.self c.put_item_back.result c.args.at c.replace-child.result _ c.in_ok-child.child c.replace-child.ensures.old
    c.replace-child.ensures.new c.in_ok-child.ensures c.put_item_back.ensures

pub change_member-returns-in_err-child-in-Ok : goal.change_member-returns-in_err-child-in-Ok
change_member-returns-in_err-child-in-Ok t c =
    let change = slot_changed c.args.edit c.args.path.now in
    let name = c.args.name.now in
    let seated = seat-Ok name c.args.members c.in-Ok.at (ap (seat name) (sym c.as_slice.ensures) ∙ sym c.in-Ok.ensures.seat) in
    let p = err_from_is_err_and c.from_residual.result c.from_residual.ensures.1 in
    let why = c.in_err-child-in-Ok.field-0.0 in
    refused_along why c.from_residual.result (change (Some c.replace-name.result.1)) (in_object name c.args.members (change (member name c.args.members))) (p.1 ∙ ap Err p.2) c.in_err-child-in-Ok.ensures
    (λ e. member_stuck change name c.replace-name.result.0 c.args.members c.in-Ok.at c.replace-name.result.1 why seated c.replace-name.ensures.old e)

pub change_member-returns-in_err-child-in-Err : goal.change_member-returns-in_err-child-in-Err
change_member-returns-in_err-child-in-Err t c =
    let change = slot_changed c.args.edit c.args.path.now in
    let name = c.args.name.now in
    let gap = seat-Err name c.args.members c.in-Err.at (ap (seat name) (sym c.as_slice.ensures) ∙ sym c.in-Err.ensures.seat) in
    let p = err_from_is_err_and c.from_residual-in_err-child-in-Err.result c.from_residual-in_err-child-in-Err.ensures.1 in
    let why = c.in_err-child-in-Err.field-0.0 in
    refused_along why c.from_residual-in_err-child-in-Err.result (change None) (in_object name c.args.members (change (member name c.args.members))) (p.1 ∙ ap Err p.2) c.in_err-child-in-Err.ensures
    (λ e. member_not_added change name c.args.members c.in-Err.at why gap e)

pub change_member-returns-in_ok-child-in-Ok : goal.change_member-returns-in_ok-child-in-Ok
change_member-returns-in_ok-child-in-Ok t c =
    let name = c.args.name.now in
    let seated = seat-Ok name c.args.members c.in-Ok.at (ap (seat name) (sym c.as_slice.ensures) ∙ sym c.in-Ok.ensures.seat) in
    member_put (slot_changed c.args.edit c.args.path.now) name c.replace-name.result.0 c.args.members c.replace-name.new.self c.put_member.result c.in-Ok.at c.replace-name.result.1 _ c.in_ok-child-in-Ok.child seated
    c.replace-name.ensures.old c.replace-name.ensures.new c.in_ok-child-in-Ok.ensures c.put_member.ensures

pub change_member-returns-in_ok-add_member-in-Err : goal.change_member-returns-in_ok-add_member-in-Err
change_member-returns-in_ok-add_member-in-Err t c =
    let name = c.args.name.now in
    let gap = seat-Err name c.args.members c.in-Err.at (ap (seat name) (sym c.as_slice.ensures) ∙ sym c.in-Err.ensures.seat) in
    member_added (slot_changed c.args.edit c.args.path.now) name c.args.members c.in_ok-add_member-in-Err.field-0 c.in-Err.at c.in_ok-child-in-Err.child gap c.in_ok-child-in-Err.ensures c.in_ok-add_member-in-Err.ensures
