use Rattle.nll_mir_grammar.proofs.form_reader.line_behind.Goals as goal

pub returns-in-Universal : goal.returns-in-Universal
returns-in-Universal c = rw c.in-Universal.is c.universal_line.ensures

pub returns-in-Outlives : goal.returns-in-Outlives
returns-in-Outlives c = rw c.in-Outlives.is c.outlives_line.ensures

pub returns-in-Region : goal.returns-in-Region
returns-in-Region c = rw c.in-Region.is c.region_line.ensures

pub returns-in-Assert : goal.returns-in-Assert
returns-in-Assert c = rw c.in-Assert.is c.assert_line.ensures

pub returns-in-Blocks : goal.returns-in-Blocks
returns-in-Blocks c = rw c.in-Blocks.is c.blocks_line.ensures

pub returns-in-Drop : goal.returns-in-Drop
returns-in-Drop c = rw c.in-Drop.is c.drop_line.ensures

pub returns-in-Struct : goal.returns-in-Struct
returns-in-Struct c = rw c.in-Struct.is c.struct_line.ensures

pub returns-in-Let : goal.returns-in-Let
returns-in-Let c = rw c.in-Let.is c.let_line.ensures

pub returns-in-Read : goal.returns-in-Read
returns-in-Read c = rw c.in-Read.is c.read_line.ensures

pub returns-in-Switch : goal.returns-in-Switch
returns-in-Switch c = rw c.in-Switch.is c.switch_line.ensures

pub returns-in-None : goal.returns-in-None
returns-in-None c = rw c.in-Block.is c.in-None.ensures

pub returns-in-None-variable_at : goal.returns-in-None-variable_at
returns-in-None-variable_at c = rw c.in-Live.is c.in-None-variable_at.ensures

pub returns-in-None-variable_at-2 : goal.returns-in-None-variable_at-2
returns-in-None-variable_at-2 c = rw c.in-Dead.is c.in-None-variable_at-2.ensures

pub returns-in-None-block_at : goal.returns-in-None-block_at
returns-in-None-block_at c = rw c.in-Goto.is c.in-None-block_at.ensures
