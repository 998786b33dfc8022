use Rattle.ext_attributes.proofs.MarksLemmas.{after_flag, after_number}
use Rattle.ext_attributes.proofs.marks.capability_of.Goals as goal

pub returns-in_err-permitted : goal.returns-in_err-permitted
returns-in_err-permitted c =
    rw c.from_residual-in_err-permitted.ensures (λ k is e.
    let effective = c.in_ok-effective.ensures in
    c.in_err-permitted.ensures k.permitted _ is.permitted (after_flag _ _ _ k effective.0 effective.1 e))

pub returns-in_err-inheritable : goal.returns-in_err-inheritable
returns-in_err-inheritable c =
    rw c.from_residual-in_err-inheritable.ensures (λ k is e.
    let effective = c.in_ok-effective.ensures in
    let permitted = c.in_ok-permitted.ensures in
    c.in_err-inheritable.ensures k.inheritable _ is.inheritable (after_number _ _ k.permitted _ _ permitted.0 is.permitted permitted.1 (after_flag _ _ _ k effective.0 effective.1 e)))

pub returns-in_err-root : goal.returns-in_err-root
returns-in_err-root c =
    rw c.from_residual-in_err-root.ensures (λ k is e.
    let effective = c.in_ok-effective.ensures in
    let permitted = c.in_ok-permitted.ensures in
    let inheritable = c.in_ok-inheritable.ensures in
    c.in_err-root.ensures k.root is.root (after_number _ _ k.inheritable _ _ inheritable.0 is.inheritable inheritable.1 (after_number _ _ k.permitted _ _ permitted.0 is.permitted permitted.1 (after_flag _ _ _ k effective.0 effective.1 e))))
