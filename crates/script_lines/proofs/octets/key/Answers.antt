use Rattle.std.proofs.Common.{refl, subst}
use Rattle.object_store.specs.declared.key.KeyFault.{KeyFault}
use Rattle.object_store.specs.Key.{IsKeyFault}
use Rattle.script_lines.proofs.KeyLemmas.{key-value, key-none-of}
use Rattle.script_lines.proofs.octets.key.Goals as goal

pub returns-in-Ok : goal.returns-in-Ok
returns-in-Ok c = key-value c.args.text.now c.in_ok-owned.field-0.items c.in-Ok.key c.in_ok-owned.ensures c.in-Ok.ensures.value (c.in-Ok.ensures.sound refl)

pub returns-in-Err-NotKey-default : goal.returns-in-Err-NotKey-default
returns-in-Err-NotKey-default c =
    let P : KeyFault → Type 0 = IsKeyFault c.in_ok-owned.field-0.items in
    key-none-of c.args.text.now c.in_ok-owned.field-0.items c.in_ok-owned.ensures
    (subst P c.in-Err-NotKey-default.field-0-0-is c.in-Err-NotKey-default.ensures.fault)
