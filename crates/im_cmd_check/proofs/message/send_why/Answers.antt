use Rattle.im_cmd_check.proofs.message.send_why.Goals as goal

pub returns-in-OpenLiteral : goal.returns-in-OpenLiteral
returns-in-OpenLiteral g c = rw c.in-OpenLiteral.is c.send_told-in-OpenLiteral.ensures

pub returns-in-Dimensions : goal.returns-in-Dimensions
returns-in-Dimensions g c = rw c.in-Dimensions.is c.send_told-in-Dimensions.ensures
