use Rattle.std.proofs.Common.{[], ◌++◌, ap, ◌∙◌}
use Rattle.cbt_lex.specs.Lines.{lined}
use Rattle.cbt_model.specs.declared.events.Fate.TheVariants.{Lost, Late}
use Rattle.cbt_script.specs.Printed.{script_text, settings_lines, doc_lines, client_lines, cleaner_lines, stop_lines, fault_lines, order_lines, sweep_lines}
use Rattle.cbt_script.proofs.Lined.{grown}
use Rattle.cbt_script.proofs.script.Script.canonical.Goals as goal

-- each part behind those before it
pub returns : goal.returns
unfolding script_text
returns c =
    let s = c.args.self.now in
    let a = settings_lines s in
    let b = a ++ doc_lines s.docs in
    let d = b ++ client_lines s.clients in
    let e = d ++ cleaner_lines s.cleaners in
    let f = e ++ stop_lines s s.stops in
    let g = f ++ fault_lines Lost s s.faults.fates in
    let h = g ++ fault_lines Late s s.faults.fates in
    let i = h ++ order_lines s s.order in
    let settings = grown c.in_ok-out.out c.push_settings.new.out [] a c.in_ok-out.ensures c.in_ok-push_settings.ensures in
    let docs = grown c.push_settings.new.out c.push_docs.new.out a (doc_lines s.docs) settings
    (c.in_ok-push_docs.ensures ∙ ap (λ x. c.push_settings.new.out ++ lined (doc_lines x)) c.as_slice.ensures) in
    let clients = grown c.push_docs.new.out c.push_clients.new.out b (client_lines s.clients) docs
    (c.in_ok-push_clients.ensures ∙ ap (λ x. c.push_docs.new.out ++ lined (client_lines x)) c.as_slice-2.ensures) in
    let cleaners = grown c.push_clients.new.out c.push_cleaners.new.out d (cleaner_lines s.cleaners) clients
    (c.in_ok-push_cleaners.ensures ∙ ap (λ x. c.push_clients.new.out ++ lined (cleaner_lines x)) c.as_slice-3.ensures) in
    let stops = grown c.push_cleaners.new.out c.push_stops.new.out e (stop_lines s s.stops) cleaners c.in_ok-push_stops.ensures in
    let lost = grown c.push_stops.new.out c.push_faults.new.out f (fault_lines Lost s s.faults.fates) stops c.in_ok-push_faults.ensures in
    let late = grown c.push_faults.new.out c.push_faults-2.new.out g (fault_lines Late s s.faults.fates) lost c.in_ok-push_faults-2.ensures in
    let order = grown c.push_faults-2.new.out c.push_order.new.out h (order_lines s s.order) late c.in_ok-push_order.ensures in
    grown c.push_order.new.out c.push_sweep.new.out i (sweep_lines s.sweep) order c.in_ok-push_sweep.ensures
